-- One number of an image, as the code reads it: what `read_at` gave, and at a fault its place.
use Rattle.std.proofs.Common.{◌≡◌, ℕ, List, Ok, Err, sym, ap, ◌∙◌}
use Rattle.leb128.specs.declared.Fault.{Fault}
use Rattle.leb128.specs.declared.Number.{Number}
use Rattle.leb128.specs.Number.{read_at}
use Rattle.image.specs.declared.refusals.Fault.TheVariants as fault
use Rattle.image.specs.Read.{refuse, fault_place, located, number_at}

module _ (bs : List ℕ) (k at : ℕ) where
  pub number_ok : (p : Number) → Ok p ≡ read_at bs at → number_at bs k at ≡ Ok p
  unfolding number_at
  number_ok p e = ap (located bs k at) (sym e)

  pub number_fault : (f : Fault) (place : ℕ) → Err f ≡ read_at bs at → fault_place f bs at ≡ place → number_at bs k at ≡ refuse (fault.Number f) place k
  unfolding number_at
  number_fault f place e p = ap (located bs k at) (sym e) ∙ ap (λ x. refuse (fault.Number f) x k) p
