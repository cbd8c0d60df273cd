-- Making an object keeps a heap sound, makes that object and no other, and changes nothing outside. The object is laid where
-- room was found; in marking and in marked it is marked and counted live, and no other mark changes; then the root holds it.
use Rattle.std.proofs.Common.{◌≡◌, ℕ, ◌+◌, ◌/◌, ◌≤◌, true, false, ltb, leb, Some, None, Err, Option, Result, sym, refl, ap, ◌∙◌, arith}
use Rattle.layout.specs.Shape.{Shape, Lawful}
use Rattle.memory.specs.declared.phase.Phase.{Phase}
use Rattle.memory.specs.declared.phase.Phase.TheVariants.{Idle, Marking, Marked}
use Rattle.memory.specs.State.{State, with_root, with_regions, with_marks}
use Rattle.memory.specs.Objects.{laid, born, born_marked, new_at, new_object}
use Rattle.model.specs.declared.edits.Refusal.{Refusal}
use Rattle.model.specs.declared.edits.Refusal.TheVariants.{RootAbove63, IllegalHeader, NoSpace}
use Rattle.std.proofs.lemmas.Bool.{cond_both, false_from_ne_true, and_parts, leb-true, true≢false}
use Rattle.tables.specs.declared.regions.Regions.{Regions}
use Rattle.tables.specs.Marks.{Sets}
use Rattle.tables.specs.Regions.{is_open, free_count, next_free, room, appended, opening, opening_at, taken}
use Rattle.heap.specs.Sound.{Sound, region}
use Rattle.heap.specs.Effects.{Outside, Made, Births, Makes}
use Rattle.heap.proofs.Born.{born_sound, born_births}
use Rattle.heap.proofs.Keeps.{Keeps, refused_keeps}
use Rattle.heap.proofs.Joined.{joined-put, joined_has}
use Rattle.heap.proofs.Opening.{next_is_free, free_within}
use Rattle.heap.proofs.Placing.{laid_sound, near, region_of, fresh, word_old, word_outside, head-new, word-new}
use Rattle.heap.proofs.Rooms.{Room, room_here, room-there}
use Rattle.heap.proofs.RootKeeps.{root_sound}

-- the object is made where there is room
module _ {S : Shape} (lw : Lawful S) {s : State} (d : Sound S s) (root h : ℕ) (legal : S.legal h ≡ true) {r : Regions} {p : ℕ} (m : Room s r p (S.size h)) where
  abbrev t : State
  t = laid (with_regions s r) p h (S.size h)

  is : t.starts p ≡ true
  is = joined_has 32768 s.starts p (near lw d h legal m)

  unmarked : s.marks.marked p ≡ false
  unmarked = false_from_ne_true _ (λ y. true≢false (sym (d.marked p y) ∙ fresh lw d h legal m))

  named : (q : ℕ) → ◌≡◌ {A = Option ℕ} (Some p) (Some q) → t.starts q ≡ true
  named q e = let z : p ≡ q = cc in ap t.starts (sym z) ∙ is

  -- the live words of its region and its own are in use
  in_fill : (region t r.last).live + S.size h ≤ (region t r.last).fill
  in_fill = omega (arith, m.lives r.last, m.grown, d.living r.last)

  -- the heap is sound then, and the object is marked and counted live unless the phase is idle
  abbrev Right : State → Type 0
  Right u = Sound S u × Births s u p (S.size h)

  born_idle : s.phase ≡ Idle → Right (with_root t root (Some p))
  born_idle idle = (
    root_sound (laid_sound lw d h legal m) root (Some p) named,
    record { phase = refl; marked = λ busy. absurd (busy idle); others = λ q ne. refl; pending = λ q. refl; counted = λ busy. absurd (busy idle) },
  )

  born_busy : (s.phase ≡ Idle → ⊥) → Right (with_root (born_marked t p (S.size h)) root (Some p))
  born_busy busy =
      let size = ap S.size (head-new lw d h legal m) in
      let whole = laid_sound lw d h legal m in
      let b = born_births whole p (S.size h) is unmarked size (region_of lw d h legal m) in_fill busy in (
        root_sound (born_sound whole p (S.size h) is unmarked size (region_of lw d h legal m) in_fill busy) root (Some p) named,
        record {
          phase = b.phase;
          marked = b.marked;
          others = b.others;
          pending = b.pending;
          counted = λ not_idle. b.counted not_idle ∙ ap (λ k. k + S.size h) (m.lives (p / 1024));
        },
      )

  born_so : (f : Phase) → s.phase ≡ f → Right (with_root (born f t p (S.size h)) root (Some p))
  born_so Idle e = born_idle e
  born_so Marking e = born_busy (λ z. grind arith)
  born_so Marked e = born_busy (λ z. grind arith)

  -- the words, the starts and the roots tell that the object was made, whatever the regions and the marks are
  made : (rs : Regions) (ms : Sets) → Made S s (with_root (with_regions (with_marks t ms) rs) root (Some p)) root h p
  made rs ms =
      record {
        fresh = fresh lw d h legal m;
        near = near lw d h legal m;
        starts = λ q. ap (λ f. f q) (joined-put 32768 s.starts p (near lw d h legal m));
        head = head-new lw d h legal m;
        body = word-new lw d h legal m;
        others = word_old lw d h legal m;
        roots = refl;
      }

  outside : (rs : Regions) (ms : Sets) → rs.count ≡ r.count → Outside s (with_root (with_regions (with_marks t ms) rs) root (Some p))
  outside rs ms e = record { words = word_outside lw d h legal m; spare = refl; count = e ∙ m.count }

  effect : (f : Phase) → Made S s (with_root (born f t p (S.size h)) root (Some p)) root h p × Outside s (with_root (born f t p (S.size h)) root (Some p))
  effect Idle = (made r s.marks, outside r s.marks refl)
  effect Marking = (made _ _, outside _ _ refl)
  effect Marked = (made _ _, outside _ _ refl)

  pub made_keeps : Keeps S s (λ u a. Makes S s u root h a) (new_at s root h (S.size h) (Some p, r))
  made_keeps = let b = born_so s.phase refl in let e = effect s.phase in record { sound = b.0; effect = (p, e.0, b.1); outside = e.1 }

module _ (S : Shape) (lw : Lawful S) (s : State) (root h : ℕ) (d : Sound S s) where
  abbrev Kept : Result (Unit {0}) Refusal × State → Type 0
  Kept = Keeps S s (λ t r. Makes S s t root h r)

  -- what was found
  abbrev Found : Option ℕ × Regions → Type 0
  Found x = Kept (new_at s root h (S.size h) x)

  refused : (why : Refusal) → Kept (Err why, s)
  refused why = refused_keeps S s (λ t. (p : ℕ) × Made S s t root h p × Births s t p (S.size h)) why d

  module _ (legal : S.legal h ≡ true) where
    here : room s.regions (S.size h) ≡ true → Found (appended s.regions (S.size h))
    here y =
        let b = and_parts (is_open (region s s.regions.last).kind) (leb ((region s s.regions.last).fill + S.size h) 1024) y in
        made_keeps lw d root h legal (room_here d (S.size h) b.0 (leb-true ((region s s.regions.last).fill + S.size h) 1024 b.1))

    there : 2 ≤ free_count s.regions → (x : Option ℕ) → next_free s.regions ≡ x → Found (opening_at s.regions (S.size h) x)
    there two None e = refused NoSpace
    there two (Some g) e =
        let f = next_is_free s.regions g (d.latest (some-region two)) e in
        made_keeps lw d root h legal (room-there d (S.size h) g f.0 f.1 two (omega (arith, lw.most h)))
      where
        some-region : 2 ≤ free_count s.regions → 1 ≤ s.regions.count
        some-region l = omega (arith, free_within s.regions)

    placed : Found (taken s.regions (S.size h))
    placed =
        cond_both (room s.regions (S.size h)) (appended s.regions (S.size h)) _ Found here
        (λ full.
        cond_both (leb 2 (free_count s.regions)) (opening s.regions (S.size h)) (None, s.regions) Found
        (λ two. there (leb-true 2 (free_count s.regions) two) (next_free s.regions) refl) (λ few. refused NoSpace))

  pub new_keeps : Keeps S s (λ t r. Makes S s t root h r) (new_object S s root h)
  new_keeps = cond_both (ltb root 64) _ _ Kept (λ low. cond_both (S.legal h) _ _ Kept placed (λ illegal. refused IllegalHeader)) (λ high. refused RootAbove63)
