-- How an image is written, and what a directory has of it.
use Rattle.std.specs.Prelude.{◌≡◌, ◌++◌, List, [], ◌∷◌, ℕ, codes, Option, None, Some}
use Rattle.virt_types.specs.declared.ask.ImageKind.{ImageKind}
use Rattle.virt_types.specs.declared.ask.ImageKind.TheVariants as kind
use Rattle.store_spec.specs.declared.image.Image.{Image}
use Rattle.store_spec.specs.declared.operation.Operation.{Operation}
use Rattle.store_spec.specs.declared.operation.Operation.TheVariants as op
use Rattle.store_spec.specs.ImageFile.{image_bytes}

-- the ending of the file of an image of this kind
abbrev pub image_ending : ImageKind → List ℕ
image_ending kind.Save = codes ".img"
image_ending kind.Dump = codes ".dump"

-- the file of an image
unfoldable pub image_name : ImageKind → List ℕ → List ℕ
image_name k name = name ++ image_ending k

-- the file in which it is written before it gets its name
unfoldable pub image_draft : List ℕ → List ℕ
image_draft name = name ++ codes ".part"

-- the operations that write an image, in order
abbrev pub image_steps : List ℕ → Image → List Operation
image_steps name i =
    op.Write (image_draft name) (image_bytes i)
    ∷ op.Sync (image_draft name)
    ∷ op.Rename (image_draft name) (image_name i.kind name)
    ∷ op.SyncDirectory ∷ []
