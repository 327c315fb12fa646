-- Devices in a list, one at a time.
use Rattle.std.proofs.Common.{◌≡◌, ℕ, List, ◌∷◌, true, None, refl, sym, ap, ◌∙◌, cond}
use Rattle.std.specs.Prelude.{Option, filter}
use Rattle.std.specs.Option.{option_or}
use Rattle.types_base.specs.declared.memory.OrNoMemory.{OrNoMemory}
use Rattle.types_base.specs.declared.memory.OrNoMemory.TheVariants as or
use Rattle.text_spec.specs.declared.definition.DefFault.{DefFault}
use Rattle.text_spec.specs.declared.device_kind.DeviceKind.{DeviceKind}
use Rattle.text_spec.specs.declared.vocabulary.ElementName.{ElementName}
use Rattle.text_spec.specs.DeviceList.{devices_fault, device_fault, element_for, key_in, with_key}
use Rattle.text_spec.specs.Look.{is_element}
use Rattle.text_spec.specs.Tests.{FaultUnlessNoMemory}
use Rattle.text_spec.specs.Tree.{Tree}

-- the devices of a kind among elements
abbrev pub devices : DeviceKind → List Tree → List Tree
devices k ts = filter (is_element (element_for k)) ts

module _ (k : DeviceKind) (names : List ElementName) (met : List (List ℕ)) (t : Tree) (ts : List Tree)
    (is_one : is_element (element_for k) t ≡ true) where
  one_more : devices_fault k names met (devices k (t ∷ ts))
      ≡ option_or (device_fault k names met t) (devices_fault k names (with_key (key_in k t) met) (devices k ts))
  unfolding devices_fault
  one_more = ap (λ b. devices_fault k names met (cond b (t ∷ devices k ts) (devices k ts))) is_one

  module _ (rest : List Tree) (first : rest ≡ t ∷ ts) (whole : Option DefFault)
      (left : devices_fault k names met (devices k rest) ≡ whole) where
    whole_is : whole ≡ option_or (device_fault k names met t) (devices_fault k names (with_key (key_in k t) met) (devices k ts))
    whole_is = sym left ∙ ap (λ xs. devices_fault k names met (devices k xs)) first ∙ one_more

    found : (fault : Option DefFault) → device_fault k names met t ≡ fault → (e : OrNoMemory DefFault) → FaultUnlessNoMemory e fault → FaultUnlessNoMemory e whole
    found fault is or.NoMemory finds = tt
    found fault is (or.Fault f) finds =
        whole_is ∙ ap (λ x. option_or x (devices_fault k names (with_key (key_in k t) met) (devices k ts))) (is ∙ finds)

    -- the device has a fault, and it is the first
    pub stopped : (e : OrNoMemory DefFault) → FaultUnlessNoMemory e (device_fault k names met t) → FaultUnlessNoMemory e whole
    stopped e finds = found (device_fault k names met t) refl e finds

    -- the device has none, and the first fault is that of the others
    pub passed : device_fault k names met t ≡ None → devices_fault k names (with_key (key_in k t) met) (devices k ts) ≡ whole
    passed none =
        sym (whole_is ∙ ap (λ x. option_or x (devices_fault k names (with_key (key_in k t) met) (devices k ts))) none)
