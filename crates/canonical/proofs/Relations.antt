-- Relations that match graphs. One that says the same as a relation that matches two graphs matches them too. Where two graphs
-- are matched with a third, they are matched by relating what is related with the same object of the third.
use Rattle.std.proofs.Common.{◌≡◌, ℕ, zero, suc, true, sym, ◌∙◌, subst}
use Rattle.layout.specs.Shape.{Shape, plain}
use Rattle.model.specs.Graph.{Graph}
use Rattle.canonical.specs.Alike.{Match, Matching}

module _ (R Q : ℕ → ℕ → Type 0) (to : (a b : ℕ) → R a b → Q a b) where
  match_to : (a b : ℕ) → Match R a b → Match Q a b
  match_to zero zero p = tt
  match_to zero (suc b) p = p
  match_to (suc a) zero p = p
  match_to (suc a) (suc b) p = to a b p

  pub matching_to : {S : Shape} {g h : Graph} → ((a b : ℕ) → Q a b → R a b) → Matching S g h R → Matching S g h Q
  matching_to {S} {g} {h} from m = record {
    one = λ a b c d p q. m.one a b c d (from a b p) (from c d q);
    roots = λ k. match_to (g.root k) (h.root k) (m.roots k);
    heads = λ a b p. m.heads a b (from a b p);
    references = λ a b i p e. match_to (g.field a i) (h.field b i) (m.references a b i (from a b p) e);
    plains = λ a b i p e. m.plains a b i (from a b p) e;
  }

-- two names are related where both are related with the same third
abbrev pub Meet : (ℕ → ℕ → Type 0) → (ℕ → ℕ → Type 0) → ℕ → ℕ → Type 0
Meet R Q a c = (b : ℕ) × R a b × Q c b

match_meet : (R Q : ℕ → ℕ → Type 0) (a b c : ℕ) → Match R a b → Match Q c b → Match (Meet R Q) a c
match_meet R Q zero zero zero p q = tt
match_meet R Q (suc a) (suc b) (suc c) p q = (b, p, q)
match_meet R Q zero (suc b) c p q = absurd p
match_meet R Q (suc a) zero c p q = absurd p
match_meet R Q zero zero (suc c) p q = absurd q
match_meet R Q (suc a) (suc b) zero p q = absurd q

pub matching_meet : {S : Shape} {g h k : Graph} (R Q : ℕ → ℕ → Type 0) → Matching S g k R → Matching S h k Q → Matching S g h (Meet R Q)
matching_meet {S} {g} {h} {k} R Q m w = record {
  one = λ a b c d p q. (
    λ e. (w.one b p.0 d q.0 p.2 q.2).1 ((m.one a p.0 c q.0 p.1 q.1).0 e),
    λ e. (m.one a p.0 c q.0 p.1 q.1).1 ((w.one b p.0 d q.0 p.2 q.2).0 e),
  );
  roots = λ i. match_meet R Q (g.root i) (k.root i) (h.root i) (m.roots i) (w.roots i);
  heads = head;
  references = λ a c i p e.
      match_meet R Q (g.field a i) (k.field p.0 i) (h.field c i) (m.references a p.0 i p.1 e) (w.references c p.0 i p.2 (subst (λ x. S.reference x i ≡ true) (head a c p) e));
  plains = λ a c i p e. m.plains a p.0 i p.1 e ∙ sym (w.plains c p.0 i p.2 (subst (λ x. plain S x i ≡ true) (head a c p) e));
}
  where
    head : (a c : ℕ) → Meet R Q a c → g.head a ≡ h.head c
    head a c p = m.heads a p.0 p.1 ∙ sym (w.heads c p.0 p.2)
