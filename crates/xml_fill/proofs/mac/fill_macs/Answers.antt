use Rattle.std.proofs.Common.{[], ◌++◌, ◌<◌, ◌≤◌, length, arith}
use Rattle.std.proofs.KnownBytes.{Appends-nil, Appends-trans}
use Rattle.xml_fill.proofs.Macs.{step, ended}
use Rattle.xml_fill.proofs.mac.fill_macs.Goals as goal

pub loop-place-init : goal.loop-place-init
loop-place-init g c = ([], λ words new filled. filled, Appends-nil _)

pub loop-place-preserved : goal.loop-place-preserved
loop-place-preserved g c =
    let l = c.loop-place in
    let so_far = l.invariant in
    let one = c.mac_or_new-mac.ensures in
    let within : l.place < length l.interfaces = omega arith in (
      so_far.0 ++ one.0,
      step c.args.interfaces.now l.interfaces l.place c.index-interfaces-place.result c.mac_or_new-mac.result so_far.0 one.0 within
          one.1 so_far.1,
      Appends-trans _ _ _ so_far.0 one.0 so_far.2 one.2,
    )

pub returns : goal.returns
returns g c =
    let so_far = c.loop-place.invariant in
    let past : length c.loop-place.interfaces ≤ c.loop-place.place = omega arith in
    (so_far.0, ended c.args.interfaces.now c.loop-place.interfaces c.loop-place.place so_far.0 past so_far.1, so_far.2)
