-- Two graphs have one image exactly if they are alike: what is read of an image is the content that it was written of.
use Rattle.std.proofs.Common.{◌≡◌, Ok, refl, ap}
use Rattle.layout.specs.Shape.{Shape, Lawful}
use Rattle.image.specs.Content.{Content, written}
use Rattle.image.specs.Numbering.{WellNumbered}
use Rattle.image.specs.Read.{read}
use Rattle.image.proofs.Exact.{written_read}
use Rattle.canonical.specs.Saving.{content_of}
use Rattle.canonical.specs.Saved.{OneImage}
use Rattle.canonical.proofs.OneContent.{one_content}
use Rattle.canonical.proofs.Numbering.{well_numbered}
use Rattle.canonical.proofs.SavedAlike.{alike_from_content}

pub content_from_written : (S : Shape) → Lawful S → (c d : Content) → WellNumbered S c → WellNumbered S d → written S c ≡ written S d → c ≡ d
content_from_written S law c d w x e =
    let p : read S (written S c) ≡ Ok c = written_read S law (written S c) c w refl in
    let q : read S (written S d) ≡ Ok d = written_read S law (written S d) d x refl in
    let same : read S (written S c) ≡ read S (written S d) = ap (read S) e in
    cc

pub one_image : (S : Shape) → Lawful S → OneImage S
one_image S law g h n m wg wh fn fm = (
  λ e. alike_from_content S law g h n m wg wh (content_from_written S law (content_of S g n) (content_of S h m) (well_numbered wg fn) (well_numbered wh fm) e),
  λ a. ap (written S) (one_content S g h n m wg.within wh.within a),
)
