-- The edits that alter nothing are answered alike: each asks for a root, a header or a plain word of an object that a root
-- holds, and there the two agree. The heap that never collects never lacks space.
use Rattle.std.proofs.Common.{◌≡◌, ℕ, false, ap, inl, inr, arith}
use Rattle.image.specs.Content.{Content}
use Rattle.layout.specs.Shape.{Shape}
use Rattle.memory.specs.State.{State}
use Rattle.memory.specs.Edits.{peek_word, same_roots, head_of}
use Rattle.model.specs.Edits.{held, edited, peek, same, head}
use Rattle.model.specs.declared.edits.Edit.{Edit}
use Rattle.model.specs.declared.edits.Edit.TheVariants.{New, Set, Get, Put, Peek, Copy, Clear, Same, Head}
use Rattle.std.proofs.lemmas.Bool.Decides.{nat_tests}
use Rattle.std.proofs.lemmas.Bool.{cases_eq}
use Rattle.life.specs.Faithful.{lacking}
use Rattle.life.proofs.Agree.{Agree, At, none, some, at_root, head_is, object_is, reference_is}

-- the heap that never collects lacks no space
pub never_lacks : (S : Shape) (m : Content) (e : Edit) → lacking (edited S m e).0 ≡ false
never_lacks S m (New root h) = grind arith
never_lacks S m (Set i position k) = grind arith
never_lacks S m (Get i position k) = grind arith
never_lacks S m (Put i position word) = grind arith
never_lacks S m (Peek i position) = grind arith
never_lacks S m (Copy i k) = grind arith
never_lacks S m (Clear i) = grind arith
never_lacks S m (Same i k) = grind arith
never_lacks S m (Head i) = grind arith

-- an edit that asks leaves the heap as it is
pub peek_still : (S : Shape) (m : Content) (i position : ℕ) → (peek S m i position).1 ≡ m
peek_still S m i position = grind arith

pub head_still : (m : Content) (i : ℕ) → (head m i).1 ≡ m
head_still m i = grind arith

pub same_still : (m : Content) (i k : ℕ) → (same m i k).1 ≡ m
same_still m i k = grind arith

module _ {S : Shape} {s : State} {m : Content} {ν : ℕ → ℕ} (a : Agree S s m ν) where
  pub peek-same : (i position : ℕ) → peek_word S s i position ≡ (peek S m i position).0
  peek-same i position = at (at_root a i)
    where
      at : At s m ν i → peek_word S s i position ≡ (peek S m i position).0
      at (none n z) = rw n (grind (arith, nat_tests))
      at (some p n st z) =
          let h = head_is a i p st z in
          let w = a.tied.plains p position st in
          let o = object_is m (held m i) (ν p) z in
          rw n (grind (arith, nat_tests))

  pub head-same : (i : ℕ) → head_of s i ≡ (head m i).0
  head-same i = at (at_root a i)
    where
      at : At s m ν i → head_of s i ≡ (head m i).0
      at (none n z) = rw n (grind (arith, nat_tests))
      at (some p n st z) = let h = head_is a i p st z in rw n (grind (arith, nat_tests))

  -- two roots of the heap are equal exactly if their numbers are
  pub same-same : (i k : ℕ) → same_roots s i k ≡ (same m i k).0
  same-same i k = at (at_root a i) (at_root a k)
    where
      at : At s m ν i → At s m ν k → same_roots s i k ≡ (same m i k).0
      at (none n z) (none o y) = rw (n, o) (grind (arith, nat_tests))
      at (none n z) (some q o st' y) = let v = reference_is a.sound q st' in rw (n, o) (grind (arith, nat_tests))
      at (some p n st z) (none o y) = let u = reference_is a.sound p st in rw (n, o) (grind (arith, nat_tests))
      at (some p n st z) (some q o st' y) =
          let u = reference_is a.sound p st in
          let v = reference_is a.sound q st' in
          let e = a.tied.distinct p q st st' in
          elim (cases_eq p q) [
            | inl d ↦ (let f : ν p ≡ ν q = ap ν d in rw (n, o) (grind (arith, nat_tests)))
            | inr d ↦ rw (n, o) (grind (arith, nat_tests))
          ]
