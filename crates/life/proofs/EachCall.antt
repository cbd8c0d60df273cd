-- Each call of a life: an edit ends for want of space or alike in both heaps, and a step of a marking, or a refined card, leaves
-- every object and root as it was.
use Rattle.std.proofs.Common.{◌≡◌, ℕ, ◌+◌, ◌<◌, Bool, true, false, cond, List, ◌∷◌, length, get_or, Some, None, Ok, Err, Result, sym, refl, ap, ◌∙◌, subst, ap₂, arith}
use Rattle.bitset.specs.Set.{first_of}
use Rattle.bitset.proofs.Set.{first_some}
use Rattle.image.specs.Content.{Content}
use Rattle.heap.specs.Effects.{Outside}
use Rattle.heap.specs.Sound.{Sound}
use Rattle.heap.specs.Steps.{SameObjects, Begins, Marks, Refining}
use Rattle.heap.proofs.BeginKeeps.{begin_keeps}
use Rattle.heap.proofs.Geometry.{place_below}
use Rattle.heap.proofs.Keeps.{Keeps, same_outside}
use Rattle.heap.proofs.MarkKeeps.{mark_keeps}
use Rattle.heap.proofs.NewKeeps.{new_keeps}
use Rattle.heap.proofs.PutKeeps.{put_keeps}
use Rattle.heap.proofs.RefineKeeps.{refine_keeps}
use Rattle.heap.proofs.RootKeeps.{get_keeps, copy_keeps, clear_keeps}
use Rattle.heap.proofs.SetKeeps.{set_keeps}
use Rattle.layout.specs.Shape.{Shape, Lawful}
use Rattle.marking.specs.Refining.{refine_step}
use Rattle.marking.specs.Admission.{admitted}
use Rattle.marking.specs.Scanning.{begin_step, mark_step, mark_by}
use Rattle.marking.specs.declared.admission.Step.TheVariants.{Mark as Step-Mark}
use Rattle.marking.specs.declared.refining.Refined.{Refined as Refinement}
use Rattle.marking.specs.declared.refining.Refined.TheVariants.{Refined as OneRefined, Clean as AllClean}
use Rattle.marking.specs.declared.scanning.Marked.{Marked as Progress}
use Rattle.marking.specs.declared.scanning.Marked.TheVariants.{Scanned as OneScanned, Done as AllDone}
use Rattle.memory.specs.Edits.{reference_to}
use Rattle.memory.specs.State.{State}
use Rattle.memory.specs.declared.phase.Phase.{Phase}
use Rattle.memory.specs.declared.phase.Phase.TheVariants.{Idle, Marking, Marked}
use Rattle.model.specs.Edits.{edited as model_edited}
use Rattle.model.specs.declared.edits.Edit.{Edit}
use Rattle.model.specs.declared.edits.Edit.TheVariants.{New, Set, Get, Put, Peek, Copy, Clear, Same, Head}
use Rattle.model.specs.declared.edits.Refusal.{Refusal}
use Rattle.model.specs.declared.edits.Reply.{Reply}
use Rattle.model.proofs.Views.{tied_looks}
use Rattle.std.proofs.lemmas.Bool.{false≢true}
use Rattle.life.specs.declared.calls.Call.{Call}
use Rattle.life.specs.declared.calls.Call.TheVariants.{Edit as Asked, Begin, Mark, Refine}
use Rattle.life.specs.Serving.{granted, word_answered, same_answered, edited, edit_answer, served, begun_answer, mark_answer, refine_answer}
use Rattle.life.specs.Snapshot.{scan_count_of}
use Rattle.life.specs.Faithful.{lacking, heard_of, seen_of, replies, told, Both, serving, number_on, beginning, marking, scans_on}
use Rattle.life.proofs.Agree.{Agree}
use Rattle.life.proofs.Answering.{never_lacks, peek-same, head-same, same-same, peek_still, head_still, same_still}
use Rattle.life.proofs.BeginFacts.{facts_begin}
use Rattle.life.proofs.DoneFacts.{facts_done}
use Rattle.life.proofs.EditedNews.{new_edits}
use Rattle.life.proofs.EditedRoots.{get_edits, copy_edits, clear_edits}
use Rattle.life.proofs.EditedSame.{peek_edits, same_roots_edits, head_edits}
use Rattle.life.proofs.EditedWords.{set_edits, put_edits}
use Rattle.life.proofs.Facts.{Facts, Edits}
use Rattle.life.proofs.FactsKept.{facts_edit}
use Rattle.life.proofs.SameFacts.{facts_refine}
use Rattle.life.proofs.ScanFacts.{facts_scan}
use Rattle.life.proofs.News.{Outcome, lacked, heard, new_outcome}
use Rattle.life.proofs.Roots.{get_alike, copy_alike, clear_alike}
use Rattle.life.proofs.Words.{set_alike, put_alike}
use Rattle.life.proofs.Runs.{Sure, OneCall}

-- what an edit's answer tells, by whether it was refused for want of space
seen_edit : (e : Edit) (r : Result Reply Refusal) (rs : List (Result Reply Refusal)) → seen_of (Asked e) (edit_answer r) rs ≡ cond (lacking r) rs (r ∷ rs)
seen_edit e (Ok r) rs = refl
seen_edit e (Err why) rs = refl

heard_edit : (e : Edit) (r : Result Reply Refusal) (es : List Edit) → heard_of (Asked e) (edit_answer r) es ≡ cond (lacking r) es (e ∷ es)
heard_edit e (Ok r) es = refl
heard_edit e (Err why) es = refl

count_edit : (r : Result Reply Refusal) (n : ℕ) → scan_count_of (edit_answer r) n ≡ n
count_edit (Ok r) n = refl
count_edit (Err why) n = refl

module _ {S : Shape} (law : Lawful S) where
  pub edit_outcome : (s : State) (m : Content) (ν : ℕ → ℕ) → Agree S s m ν → (e : Edit) → Outcome S m ν e (edited S s e) (model_edited S m e)
  edit_outcome s m ν a (New root h) = new_outcome law a root h (new_keeps S law s root h a.sound)
  edit_outcome s m ν a (Set i position k) = let x = set_alike law a i position k (set_keeps S law s i position k a.sound) in heard (ap granted x.0) x.1
  edit_outcome s m ν a (Get i position k) = let x = get_alike law a i position k (get_keeps S s i position k a.sound) in heard (ap granted x.0) x.1
  edit_outcome s m ν a (Put i position word) = let x = put_alike law a i position word (put_keeps S law s i position word a.sound) in heard (ap granted x.0) x.1
  edit_outcome s m ν a (Peek i position) = heard (ap word_answered (peek-same a i position)) (subst (λ q. Agree S s q ν) (sym (peek_still S m i position)) a)
  edit_outcome s m ν a (Copy i k) = let x = copy_alike law a i k (copy_keeps S s i k a.sound) in heard (ap granted x.0) x.1
  edit_outcome s m ν a (Clear i) = let x = clear_alike law a i (clear_keeps S s i a.sound) in heard (ap granted x.0) x.1
  edit_outcome s m ν a (Same i k) = heard (ap same_answered (same-same a i k)) (subst (λ q. Agree S s q ν) (sym (same_still m i k)) a)
  edit_outcome s m ν a (Head i) = heard (ap word_answered (head-same a i)) (subst (λ q. Agree S s q ν) (sym (head_still m i)) a)

  edit_outside : (s : State) → Sound S s → (e : Edit) → Outside s (edited S s e).1
  edit_outside s h (New root header) = (new_keeps S law s root header h).outside
  edit_outside s h (Set i position k) = (set_keeps S law s i position k h).outside
  edit_outside s h (Get i position k) = (get_keeps S s i position k h).outside
  edit_outside s h (Put i position word) = (put_keeps S law s i position word h).outside
  edit_outside s h (Peek i position) = same_outside s
  edit_outside s h (Copy i k) = (copy_keeps S s i k h).outside
  edit_outside s h (Clear i) = (clear_keeps S s i h).outside
  edit_outside s h (Same i k) = same_outside s
  edit_outside s h (Head i) = same_outside s

  -- an edit that is answered alike does not lack space
  hears_it : (s : State) (m : Content) (ν : ℕ → ℕ) (e : Edit) {t : State} {m' : Content} {μ : ℕ → ℕ} → (edited S s e).0 ≡ (model_edited S m e).0
      → Edits S s t m m' ν μ → (lacking (edited S s e).0 ≡ true → Edits S s t m m ν ν) × (lacking (edited S s e).0 ≡ false → Edits S s t m m' ν μ)
  hears_it s m ν e d x = (λ l. absurd (false≢true (sym (ap lacking d ∙ never_lacks S m e) ∙ l)), λ l. x)

  -- what an edit does that a marking must know of, whether the other heap hears it or not
  edit_edits : (s : State) (m : Content) (ν : ℕ → ℕ) → Agree S s m ν → (e : Edit)
      → (lacking (edited S s e).0 ≡ true → Edits S s (edited S s e).1 m m ν ν)
      × (lacking (edited S s e).0 ≡ false → Edits S s (edited S s e).1 m (model_edited S m e).1 ν (number_on ν (length m.objects) e (edited S s e)))
  edit_edits s m ν a (New root h) = new_edits law a root h (new_keeps S law s root h a.sound)
  edit_edits s m ν a (Set i position k) =
      let keep = set_keeps S law s i position k a.sound in
      hears_it s m ν (Set i position k) (ap granted (set_alike law a i position k keep).0) (set_edits law a i position k keep)
  edit_edits s m ν a (Get i position k) =
      let keep = get_keeps S s i position k a.sound in
      hears_it s m ν (Get i position k) (ap granted (get_alike law a i position k keep).0) (get_edits a i position k keep)
  edit_edits s m ν a (Put i position word) =
      let keep = put_keeps S law s i position word a.sound in
      hears_it s m ν (Put i position word) (ap granted (put_alike law a i position word keep).0) (put_edits law a i position word keep)
  edit_edits s m ν a (Peek i position) = hears_it s m ν (Peek i position) (ap word_answered (peek-same a i position)) (peek_edits S s m ν i position)
  edit_edits s m ν a (Copy i k) =
      let keep = copy_keeps S s i k a.sound in
      hears_it s m ν (Copy i k) (ap granted (copy_alike law a i k keep).0) (copy_edits a i k keep)
  edit_edits s m ν a (Clear i) =
      let keep = clear_keeps S s i a.sound in
      hears_it s m ν (Clear i) (ap granted (clear_alike law a i keep).0) (clear_edits a i keep)
  edit_edits s m ν a (Same i k) = hears_it s m ν (Same i k) (ap same_answered (same-same a i k)) (same_roots_edits S s m ν i k)
  edit_edits s m ν a (Head i) = hears_it s m ν (Head i) (ap word_answered (head-same a i)) (head_edits S s m ν i)

  -- an edit, by whether it lacks space
  record EditCall (b : Both) (e : Edit) (p : Result Reply Refusal × State) (lacks : Bool) (d : Both) : Type 0 where
    sure : Sure S d
    heap : d.heap ≡ p.1
    replied : (rs : List (Result Reply Refusal)) (es : List Edit) → rs ≡ replies S d.model es → cond lacks rs (p.0 ∷ rs) ≡ replies S b.model (cond lacks es (e ∷ es))
    hears : (es : List Edit) → told S d.model es ≡ told S b.model (cond lacks es (e ∷ es))
    counts : length d.scans ≡ length b.scans

  edit_call : (b : Both) → Sure S b → (e : Edit) → OneCall S b (Asked e) (edit_answer (edited S b.heap e).0) (edited S b.heap e).1 (serving S b (Asked e))
  edit_call b a e = whole (go (edit_outcome b.heap b.model b.number a.agree e))
    where
      p : Result Reply Refusal × State
      p = edited S b.heap e

      unheard : Both
      unheard = record { heap = p.1; model = b.model; number = b.number; snapshot = b.snapshot; scans = b.scans }

      hearing_it : Both
      hearing_it = record {
        heap = p.1;
        model = (model_edited S b.model e).1;
        number = number_on b.number (length b.model.objects) e p;
        snapshot = b.snapshot;
        scans = b.scans;
      }

      go : Outcome S b.model b.number e (edited S b.heap e) (model_edited S b.model e) → EditCall b e p (lacking p.0) (cond (lacking p.0) unheard hearing_it)
      go (lacked l x) = subst (λ t. EditCall b e p t (cond t unheard hearing_it)) (sym l) (record {
        sure = record { agree = x; facts = facts_edit a.agree x ((edit_edits b.heap b.model b.number a.agree e).0 l) b.snapshot b.scans a.facts };
        heap = refl;
        replied = λ rs es r. r;
        hears = λ es. refl;
        counts = refl;
      })
      go (heard d x) =
          let l : lacking p.0 ≡ false = ap lacking d ∙ never_lacks S b.model e in
          subst (λ t. EditCall b e p t (cond t unheard hearing_it)) (sym l) (record {
            sure = record { agree = x; facts = facts_edit a.agree x ((edit_edits b.heap b.model b.number a.agree e).1 l) b.snapshot b.scans a.facts };
            heap = refl;
            replied = λ rs es r. ap₂ ◌∷◌ d r;
            hears = λ es. refl;
            counts = refl;
          })

      whole : EditCall b e p (lacking p.0) (cond (lacking p.0) unheard hearing_it) → OneCall S b (Asked e) (edit_answer p.0) p.1 (serving S b (Asked e))
      whole x = record {
        sure = x.sure;
        heap = x.heap;
        outside = edit_outside b.heap a.agree.sound e;
        replied = λ rs es r. seen_edit e p.0 rs ∙ x.replied rs es r ∙ ap (replies S b.model) (sym (heard_edit e p.0 es));
        hears = λ es. x.hears es ∙ ap (told S b.model) (sym (heard_edit e p.0 es));
        counts = x.counts ∙ sym (count_edit p.0 (length b.scans));
      }

  -- where objects and roots are the same, so is the agreement
  same_agree : {s t : State} {m : Content} {ν : ℕ → ℕ} → Agree S s m ν → SameObjects s t → Sound S t → Agree S t m ν
  same_agree {s} {t} a x h = record {
    sound = h;
    whole = a.whole;
    tied = tied_looks law a.tied (record {
      node = λ p. ap (λ f. f p) x.starts;
      head = λ p n. ap (λ ws. get_or ws p 0) x.words;
      field = λ p i n o u. ap (λ ws. get_or ws (p + i) 0) x.words;
      root = λ k. ap (λ rs. reference_to (get_or rs k None)) x.roots;
    });
  }

  begin_call : (b : Both) → Sure S b → OneCall S b Begin (begun_answer (begin_step b.heap).0) (begin_step b.heap).1 (beginning b (begin_step b.heap))
  begin_call b a = go (begin_step b.heap) (begin_keeps S b.heap a.agree.sound)
    where
      go : (x : Result (Unit {0}) Refusal × State) → Keeps S b.heap (λ t r. Begins b.heap t r) x → OneCall S b Begin (begun_answer x.0) x.1 (beginning b x)
      go (Ok done, t) h =
          let agree = same_agree a.agree h.effect.same h.sound in
          record {
            sure = record { agree = agree; facts = facts_begin a.agree h.effect agree };
            heap = refl;
            outside = h.outside;
            replied = λ rs es r. r;
            hears = λ es. refl;
            counts = refl;
          }
      go (Err why, t) h =
          let e : t ≡ b.heap = h.effect in
          record {
            sure = record { agree = subst (λ u. Agree S u b.model b.number) (sym e) a.agree; facts = subst (λ u. Facts S u b.model b.number b.snapshot b.scans) (sym e) a.facts };
            heap = refl;
            outside = h.outside;
            replied = λ rs es r. r;
            hears = λ es. refl;
            counts = refl;
          }

  -- a mark is granted only while marking
  mark_phase : (s : State) (x : Progress) → (mark_step S s).0 ≡ Ok x → s.phase ≡ Marking
  mark_phase s x e = go s.phase refl
    where
      grants : Result Progress Refusal → Bool
      grants (Ok y) = true
      grants (Err why) = false

      go : (f : Phase) → s.phase ≡ f → s.phase ≡ Marking
      go Marking d = d
      go Idle d = absurd (false≢true (sym (ap (λ f. grants (mark_by S s (admitted f Step-Mark)).0) d) ∙ ap grants e))
      go Marked d = absurd (false≢true (sym (ap (λ f. grants (mark_by S s (admitted f Step-Mark)).0) d) ∙ ap grants e))

  mark_call : (b : Both) → Sure S b → OneCall S b Mark (mark_answer (mark_step S b.heap).0) (mark_step S b.heap).1 (marking b (mark_step S b.heap))
  mark_call b a = go (mark_step S b.heap) refl (mark_keeps S law b.heap a.agree.sound)
    where
      go : (x : Result Progress Refusal × State) → mark_step S b.heap ≡ x → Keeps S b.heap (λ t r. Marks S b.heap t r) x → OneCall S b Mark (mark_answer x.0) x.1 (marking b x)
      go (Ok OneScanned, t) e h =
          let p = h.effect.0 in
          let x = h.effect.1 in
          let s = b.heap in
          let sound = a.agree.sound in
          let low : p < 32768 = place_below sound p (sound.marked p (sound.awaited p x.waited)) in
          let first : Some p ≡ first_of s.marks.pending 0 32768 = first_some s.marks.pending 0 32768 p (omega arith) (omega arith) x.waited (λ k l u. x.lowest k u) in
          let agree = same_agree a.agree x.same h.sound in
          record {
            sure = record {
              agree = agree;
              facts = subst (λ l. Facts S t b.model b.number b.snapshot l) (ap (scans_on b) first)
                  (facts_scan a.agree agree (mark_phase s OneScanned (ap (λ y. y.0) e)) p x b.snapshot b.scans a.facts);
            };
            heap = refl;
            outside = h.outside;
            replied = λ rs es r. r;
            hears = λ es. refl;
            counts = ap (λ o. length (scans_on b o)) (sym first);
          }
      go (Ok AllDone, t) e h =
          let agree = same_agree a.agree h.effect.same h.sound in
          record {
            sure = record { agree = agree; facts = facts_done a.agree (mark_phase b.heap AllDone (ap (λ y. y.0) e)) h.effect b.snapshot b.scans a.facts };
            heap = refl;
            outside = h.outside;
            replied = λ rs es r. r;
            hears = λ es. refl;
            counts = refl;
          }
      go (Err why, t) e h =
          let z : t ≡ b.heap = h.effect in
          record {
            sure = record { agree = subst (λ u. Agree S u b.model b.number) (sym z) a.agree; facts = subst (λ u. Facts S u b.model b.number b.snapshot b.scans) (sym z) a.facts };
            heap = refl;
            outside = h.outside;
            replied = λ rs es r. r;
            hears = λ es. refl;
            counts = refl;
          }

  refine_call : (b : Both) → Sure S b → OneCall S b Refine (refine_answer (refine_step S b.heap).0) (refine_step S b.heap).1 (serving S b Refine)
  refine_call b a = go (refine_step S b.heap) (refine_keeps S law b.heap a.agree.sound)
    where
      after_it : State → Both
      after_it t = record { heap = t; model = b.model; number = b.number; snapshot = b.snapshot; scans = b.scans }

      one : (x : Refinement × State) → Outside b.heap x.1 → Sure S (after_it x.1) → OneCall S b Refine (refine_answer x.0) x.1 (after_it x.1)
      one x o z = record { sure = z; heap = refl; outside = o; replied = λ rs es r. r; hears = λ es. refl; counts = refl }

      go : (x : Refinement × State) → Keeps S b.heap (λ t r. Refining S b.heap t r) x → OneCall S b Refine (refine_answer x.0) x.1 (after_it x.1)
      go (OneRefined, t) h =
          let x = h.effect.1 in
          one (OneRefined, t) h.outside (record { agree = same_agree a.agree x.same h.sound; facts = facts_refine x.same x.marks S b.model b.number b.snapshot b.scans a.facts })
      go (AllClean, t) h =
          let z : t ≡ b.heap = h.effect.1 in
          one (AllClean, t) h.outside (record { agree = subst (λ u. Agree S u b.model b.number) (sym z) a.agree; facts = subst (λ u. Facts S u b.model b.number b.snapshot b.scans) (sym z) a.facts })

  pub any_call : (b : Both) (c : Call) → Sure S b → OneCall S b c (served S b.heap c).0 (served S b.heap c).1 (serving S b c)
  any_call b (Asked e) a = edit_call b a e
  any_call b Begin a = begin_call b a
  any_call b Mark a = mark_call b a
  any_call b Refine a = refine_call b a
