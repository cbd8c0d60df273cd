-- A heap and the heap that never collects agree: the first is sound, the references of the second name its objects, and the two
-- are tied. Then each root is nil in both, or holds an object and its number.
use Rattle.std.proofs.Common.{◌≡◌, ℕ, suc, ◌-◌, ◌<◌, true, length, Some, None, Option, sym, refl, ap, ◌∙◌, arith}
use Rattle.image.specs.Content.{Content}
use Rattle.heap.specs.Effects.{graph_of as heap_graph}
use Rattle.heap.specs.Sound.{Sound}
use Rattle.heap.proofs.Geometry.{place_below}
use Rattle.layout.specs.Shape.{Shape}
use Rattle.memory.specs.State.{State, word_in, root_in}
use Rattle.memory.specs.Edits.{reference_to}
use Rattle.model.specs.Edits.{held, object_at, numbered, graph_of as model_graph}
use Rattle.model.specs.Graph.{Reach, by_root}
use Rattle.model.specs.Tied.{Tied}
use Rattle.model.proofs.Contents.{Whole}
use Rattle.std.proofs.lemmas.Bool.{ltb-true}

pub record Agree (S : Shape) (s : State) (m : Content) (ν : ℕ → ℕ) : Type 0 where
  pub sound : Sound S s
  pub whole : Whole S m
  pub tied : Tied S (heap_graph s) (model_graph m) ν

-- what root i holds in both
pub data At (s : State) (m : Content) (ν : ℕ → ℕ) (i : ℕ) : Type 0 where
  none : root_in s i ≡ None → held m i ≡ 0 → At s m ν i
  some : (p : ℕ) → root_in s i ≡ Some p → s.starts p ≡ true → held m i ≡ suc (ν p) → At s m ν i

-- the reference of an object is its place + 1: places are far below 2 ^ 32
pub reference_is : {S : Shape} {s : State} → Sound S s → (p : ℕ) → s.starts p ≡ true → reference_to (Some p) ≡ suc p
reference_is h p st = omega (arith, place_below h p st)

-- object number n + 1 is the one at place n of the list
pub object_is : (m : Content) (v n : ℕ) → v ≡ suc n → numbered m v ≡ object_at m.objects n
object_is m v n e = let d : v - 1 ≡ n = omega arith in ap (object_at m.objects) d

module _ {S : Shape} {s : State} {m : Content} {ν : ℕ → ℕ} (a : Agree S s m ν) where
  pub at_root : (i : ℕ) → At s m ν i
  at_root i = go (root_in s i) refl
    where
      go : (o : Option ℕ) → root_in s i ≡ o → At s m ν i
      go None e = none e (a.tied.root_nil i (ap reference_to e))
      go (Some p) e =
          let st = a.sound.rooted i p e in
          some p e st (a.tied.root_same i p (ap reference_to e ∙ reference_is a.sound p st))

  -- the header of the object that root i holds is that of its number
  pub head_is : (i p : ℕ) → s.starts p ≡ true → held m i ≡ suc (ν p) → word_in s p ≡ (numbered m (held m i)).header
  head_is i p st e = a.tied.heads p st ∙ ap (λ o. o.header) (sym (object_is m (held m i) (ν p) e))

  -- its number is one of the model's
  pub number_below : (p : ℕ) → s.starts p ≡ true → ν p < length m.objects
  number_below p st = ltb-true (ν p) _ (a.tied.numbered p st)

  -- and it is reached
  pub reached : (i p : ℕ) → held m i ≡ suc (ν p) → Reach S (model_graph m) (ν p)
  reached i p e = by_root i e
