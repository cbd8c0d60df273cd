-- What follows at once from what stands since a marking began: the numbers reached then are below those made since, headers are
-- as they were, and what an object that a root holds refers to was reached then or made since.
use Rattle.std.proofs.Common.{◌≡◌, ℕ, suc, ◌<◌, true, false, length, ◌∙◌, inl, inr}
use Rattle.image.specs.Content.{Content}
use Rattle.layout.specs.Shape.{Shape}
use Rattle.memory.specs.State.{State, word_in}
use Rattle.model.specs.Edits.{held, object_at, word_at}
use Rattle.model.specs.Graph.{by_root, by_field}
use Rattle.model.proofs.Contents.{Whole}
use Rattle.std.proofs.lemmas.Bool.{both_ways, lt-ltb, ltb-true}
use Rattle.life.specs.Snapshot.{Reached, Known}
use Rattle.life.proofs.Agree.{Agree}
use Rattle.life.proofs.Facts.{Stands, Named}

-- what the roots reach is an object
module _ {S : Shape} {m : Content} (w : Whole S m) where
  pub reached_below : (n : ℕ) → Reached S m n → n < length m.objects
  reached_below n (by_root k e) = ltb-true n _ (w.closed.roots k n e)
  reached_below n (by_field {o = x} i r f e) = ltb-true n _ (w.closed.fields x i n (lt-ltb x _ (reached_below x r)) f e)

  -- so is what a root holds, and what a reference of it names
  pub held_below : (k n : ℕ) → held m k ≡ suc n → n < length m.objects
  held_below k n e = ltb-true n _ (w.closed.roots k n e)

  pub named_below : (o i n : ℕ) → Reached S m o → S.reference (object_at m.objects o).header i ≡ true
      → word_at (object_at m.objects o) i ≡ suc n → n < length m.objects
  named_below o i n r f e = ltb-true n _ (w.closed.fields o i n (lt-ltb o _ (reached_below o r)) f e)

module _ {S : Shape} {t : State} {m : Content} {ν : ℕ → ℕ} {m₀ : Content} (h : Stands S t m ν m₀) where
  pub named-known : (n : ℕ) → Named S m n → Known S m₀ n
  named-known n x = h.fields x.object x.position n (h.roots x.root x.object x.held-there) x.reference x.word

  -- what was made since is marked, so of what is not marked nothing was
  pub unmarked_reached : (p : ℕ) → t.starts p ≡ true → t.marks.marked p ≡ false → Known S m₀ (ν p) → Reached S m₀ (ν p)
  unmarked_reached p st f (inl r) = r
  unmarked_reached p st f (inr l) = absurd (both_ways _ f (h.made p st l))

  -- a reached object has the header that it had
  pub head_then : Agree S t m ν → (p : ℕ) → t.starts p ≡ true → Reached S m₀ (ν p) → word_in t p ≡ (object_at m₀.objects (ν p)).header
  head_then a p st r = a.tied.heads p st ∙ h.heads (ν p) (reached_below h.whole (ν p) r)
