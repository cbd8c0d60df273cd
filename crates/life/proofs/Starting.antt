-- A heap that was just made agrees with the heap that never collects at its start: there is no object and no root holds one.
use Rattle.std.proofs.Common.{◌≡◌, ℕ, suc, List, get_or, replicate, None, Option, ap, inl, inr, arith}
use lib.ListN.{length-replicate, get_or-replicate}
use Rattle.heap.proofs.Making.{making_sound}
use Rattle.layout.specs.Shape.{Shape}
use Rattle.memory.specs.Edits.{reference_to}
use Rattle.memory.specs.Objects.{making}
use Rattle.model.specs.Edits.{start, graph_of as model_graph}
use Rattle.model.specs.Graph.{Reach, by_root, by_field}
use Rattle.model.proofs.Contents.{start-whole, zeros}
use Rattle.std.proofs.lemmas.Bool.{cases_lt, false≢true}
use Rattle.std.proofs.lemmas.List.{get_or_past}
use Rattle.life.proofs.Agree.{Agree}

-- no root holds anything
none-held : (n k : ℕ) → get_or {A = Option ℕ} (replicate n None) k None ≡ None
none-held n k = elim (cases_lt k n) [ inl l ↦ get_or-replicate n k None None l | inr l ↦ get_or_past (replicate n None) k None (omega (arith, length-replicate {A = Option ℕ} n None)) ]

no_root : (k q : ℕ) → reference_to (get_or {A = Option ℕ} (replicate 64 None) k None) ≡ suc q → ⊥
no_root k q e = let z : reference_to (get_or {A = Option ℕ} (replicate 64 None) k None) ≡ 0 = ap reference_to (none-held 64 k) in omega arith

none_reached : {S : Shape} (n : ℕ) → Reach S (model_graph start) n → ⊥
none_reached n (by_root k e) = omega (arith, zeros 64 k)
none_reached n (by_field {o = x} i r f e) = none_reached x r

pub start_agree : (S : Shape) (ws sp : List ℕ) → Agree S (making ws sp) start (λ p. 0)
start_agree S ws sp = record {
  sound = making_sound S ws sp;
  whole = start-whole S;
  tied = record {
    numbered = λ p n. absurd (false≢true n);
    distinct = λ p q n k e. absurd (false≢true n);
    root_nil = λ k e. zeros 64 k;
    root_there = λ k q e. absurd (no_root k q e);
    root_same = λ k q e. absurd (no_root k q e);
    heads = λ p n. absurd (false≢true n);
    plains = λ p i n f. absurd (false≢true n);
    there = λ p i q n f e. absurd (false≢true n);
    same = λ p i q n f e. absurd (false≢true n);
    lost = λ p i q n f e k z. false≢true n;
    found = λ n r. absurd (none_reached n r);
  };
}
