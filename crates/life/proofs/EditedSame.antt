-- Edits that alter nothing: those that are refused, and those that only ask for a word, a header, or whether two roots hold the
-- same object. For a marking nothing has changed.
use Rattle.std.proofs.Common.{◌≡◌, ℕ, Result, sym, refl, subst, inl, arith}
use Rattle.image.specs.Content.{Content}
use Rattle.layout.specs.Shape.{Shape}
use Rattle.memory.specs.State.{State}
use Rattle.model.specs.Edits.{peek, same, head}
use Rattle.model.specs.declared.edits.Refusal.{Refusal}
use Rattle.std.proofs.lemmas.Bool.{both_ways}
use Rattle.life.proofs.Answering.{peek_still, same_still, head_still}
use Rattle.life.proofs.Facts.{Edits}

pub same_edits : (S : Shape) (s : State) (m : Content) (ν : ℕ → ℕ) → Edits S s s m m ν ν
same_edits S s m ν = record {
  phase = refl;
  grown = omega arith;
  heads = λ n l. refl;
  stays = λ q st. (st, refl, refl);
  new-one = λ q st. inl st;
  kept = λ q e. e;
  awaits = λ q e. e;
  only = λ q st e f. absurd (both_ways (s.marks.marked q) f e);
  no_more = λ q e. inl e;
  born = λ o q e f. absurd (both_ways (s.starts q) f e);
  written = λ p i q st f sq e. inl e;
  roots = λ k n e. inl (k, e);
  fields = λ o i n f e. inl (f, e);
}

pub peek_edits : (S : Shape) (s : State) (m : Content) (ν : ℕ → ℕ) (i position : ℕ) → Edits S s s m (peek S m i position).1 ν ν
peek_edits S s m ν i position = subst (λ x. Edits S s s m x ν ν) (sym (peek_still S m i position)) (same_edits S s m ν)

pub same_roots_edits : (S : Shape) (s : State) (m : Content) (ν : ℕ → ℕ) (i k : ℕ) → Edits S s s m (same m i k).1 ν ν
same_roots_edits S s m ν i k = subst (λ x. Edits S s s m x ν ν) (sym (same_still m i k)) (same_edits S s m ν)

pub head_edits : (S : Shape) (s : State) (m : Content) (ν : ℕ → ℕ) (i : ℕ) → Edits S s s m (head m i).1 ν ν
head_edits S s m ν i = subst (λ x. Edits S s s m x ν ν) (sym (head_still m i)) (same_edits S s m ν)

-- an edit that is defined by tests does what it does where they are settled, p in the heap and q in the other
pub edits_as : {S : Shape} {s : State} {m : Content} {ν ν' : ℕ → ℕ} {p p' : Result (Unit {0}) Refusal × State} {q q' : Result (Unit {0}) Refusal × Content} → p' ≡ p → q' ≡ q → Edits S s p.1 m q.1 ν ν' → Edits S s p'.1 m q'.1 ν ν'
edits_as {S} {s} {m} {ν} {ν'} {p} {p'} {q} {q'} e d x = subst (λ y. Edits S s y.1 m q'.1 ν ν') (sym e) (subst (λ z. Edits S s p.1 m z.1 ν ν') (sym d) x)
