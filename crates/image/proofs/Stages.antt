-- The definitions of the reader, one way through each: what they give once it is known what their
-- parts gave. The code takes the same ways, so each lemma answers for one exit of it.
use Rattle.std.proofs.Common.{◌≡◌, ℕ, suc, ◌+◌, ◌-◌, ◌<◌, ◌≤◌, true, false, List, [], ◌∷◌, ◌++◌, length, Ok, Err, fold, Result, sym, refl, ap, ◌∙◌, subst, ap₂, append_assoc, arith}
use Rattle.std.proofs.lemmas.Bool.{eq-eqb, le-leb, lt-leb, lt-ltb, le-ltb}
use Rattle.std.proofs.lemmas.List.Sums.{fold_push}
use Rattle.layout.specs.Shape.{Shape}
use Rattle.leb128.specs.declared.Number.{Number}
use Rattle.image.specs.declared.refusals.Fault.{Fault}
use Rattle.image.specs.declared.refusals.Fault.TheVariants as fault
use Rattle.image.specs.declared.refusals.Refusal.{Refusal}
use Rattle.image.specs.declared.strict.Role.{Role}
use Rattle.image.specs.declared.source.Reader.{Reader}
use Rattle.image.specs.declared.strict.Pass.{Pass}
use Rattle.image.specs.Content.{Object, Content, words, headers}
use Rattle.image.specs.Pass.{state_of, at_place, at_state}
use Rattle.image.specs.Steps.{prefixed, collect}
use Rattle.image.specs.declared.strict.Summary.{Summary}
use Rattle.image.specs.Stage.{Follows, summary_of, summarised}
use Rattle.image.specs.Read.{refuse, number_at, judged, State, value_at, root_role, body_role, roots_at, start_of, sign_at, counts_at, body_at, object_at, objects_at, read}

module _ (bs : List ℕ) (n k : ℕ) (r : Role) (m at : ℕ) where
  pub value_fault : (f : Refusal) → number_at bs k at ≡ Err f → value_at bs n k r (m, at) ≡ Err f
  unfolding value_at
  value_fault f e = rw e

  pub value_ok : (p : Number) (g : ℕ) → number_at bs k at ≡ Ok p → judged r n m p.value ≡ Ok g → value_at bs n k r (m, at) ≡ Ok (p.value, (g, p.next))
  unfolding value_at
  value_ok p g e j = rw (e, j)

  pub value_judged : (p : Number) (f : Fault) → number_at bs k at ≡ Ok p → judged r n m p.value ≡ Err f → value_at bs n k r (m, at) ≡ refuse f at k
  unfolding value_at
  value_judged p f e j = rw (e, j)

-- a number by its value and the place after it
pub number_is : (bs : List ℕ) (k at : ℕ) (p : Number) (v next : ℕ) → number_at bs k at ≡ Ok p → p.value ≡ v → p.next ≡ next →
    number_at bs k at ≡ Ok (record { value = v; next = next })
number_is bs k at p v next e a b = e ∙ ap₂ (λ x y. Ok (record { value = x; next = y })) a b

module _ (S : Shape) (bs : List ℕ) (at : ℕ) where
  pub sign_ok : (next : ℕ) → number_at bs 0 at ≡ Ok (record { value = S.sign; next = next }) → sign_at S bs at ≡ Ok next
  sign_ok next e = let t = eq-eqb S.sign S.sign refl in rw (e, t)

pub counts_ok : (bs : List ℕ) (at n next r end : ℕ) → number_at bs 0 at ≡ Ok (record { value = n; next = next }) → number_at bs 0 next ≡ Ok (record { value = r; next = end }) →
    r ≤ 64 → counts_at bs at ≡ Ok ((n, r), end)
counts_ok bs at n next r end e f h = let t = le-leb r 64 h in rw (e, f, t)

module _ (S : Shape) (bs : List ℕ) (n k m at : ℕ) where
  pub object_undue : m < k → object_at S bs n k (m, at) ≡ refuse fault.NotReferredTo at k
  unfolding object_at
  object_undue h = let t = lt-leb k m h in rw t

  module _ (due : k ≤ m) where
    pub object_fault : (f : Refusal) → number_at bs k at ≡ Err f → object_at S bs n k (m, at) ≡ Err f
    unfolding object_at
    object_fault f e = let t = le-leb k m due in rw (t, e)

    module _ (header next : ℕ) (read : number_at bs k at ≡ Ok (record { value = header; next = next })) where
      pub object-illegal : S.legal header ≡ false → object_at S bs n k (m, at) ≡ refuse fault.Header at k
      unfolding object_at
      object-illegal l = let t = le-leb k m due in rw (t, read, l)

      module _ (legal : S.legal header ≡ true) where
        pub object_stop : (f : Refusal) → body_at S bs n k header (m, next) ≡ Err f → object_at S bs n k (m, at) ≡ Err f
        unfolding object_at
        object_stop f e = let t = le-leb k m due in rw (t, read, legal, e)

        pub object_ok : (b : List ℕ × State) → body_at S bs n k header (m, next) ≡ Ok b → object_at S bs n k (m, at) ≡ Ok (record { header = header; body = b.0 }, b.1)
        unfolding object_at
        object_ok b e = let t = le-leb k m due in rw (t, read, legal, e)

-- a pass that is p in the state s: what its next step gives is what the definition gives there, and it is p in another state
module _ (p q : Pass) (s : State) (here : q ≡ at_state p s) where
  pub value_step : (k : ℕ) (r want : Role) → r ≡ want → (v : ℕ × State) (t : Pass) → value_at q.reader.bytes.now q.objects k r (state_of q) ≡ Ok v → t ≡ at_state q v.1 →
      (value_at p.reader.bytes.now p.objects k want s ≡ Ok v) × (t ≡ at_state p v.1)
  value_step k r want is v t e f =
      (subst (λ x. value_at p.reader.bytes.now p.objects k x s ≡ Ok v) is (subst (λ x. value_at x.reader.bytes.now x.objects k r (state_of x) ≡ Ok v) here e), f ∙ ap (λ x. at_state x v.1) here)

  pub object_step_on : (S : Shape) (k : ℕ) (o : Object × State) (t : Pass) → object_at S q.reader.bytes.now q.objects k (state_of q) ≡ Ok o → t ≡ at_state q o.1 →
      (object_at S p.reader.bytes.now p.objects k s ≡ Ok o) × (t ≡ at_state p o.1)
  object_step_on S k o t e f = (subst (λ x. object_at S x.reader.bytes.now x.objects k (state_of x) ≡ Ok o) here e, f ∙ ap (λ x. at_state x o.1) here)

-- a reader over the bytes of the image at a place, and one that was moved from there
abbrev pub Reads : List ℕ → ℕ → Reader → Type 0
Reads bs at r = (r.bytes.now ≡ bs) × (r.position ≡ at)

module _ (bs : List ℕ) (at : ℕ) (r : Reader) (here : Reads bs at r) where
  pub moved : (t : Reader) (next : ℕ) → t ≡ at_place r next → Reads bs next t
  moved t next e = (ap (λ x. x.bytes.now) e ∙ here.0, ap (λ x. x.position) e)

  pub sign_here : (S : Shape) (x : Result ℕ Refusal) → sign_at S r.bytes.now r.position ≡ x → sign_at S bs at ≡ x
  sign_here S x e = rw (← here.0, ← here.1) e

  pub counts_here : (x : Result ((ℕ × ℕ) × ℕ) Refusal) → counts_at r.bytes.now r.position ≡ x → counts_at bs at ≡ x
  counts_here x e = rw (← here.0, ← here.1) e

  -- a pass begins with such a reader and no reference
  pub roots_here : (n c : ℕ) (x : Result (List ℕ × State) Refusal) → roots_at r.bytes.now n c (0, r.position) ≡ x → roots_at bs n c (0, at) ≡ x
  roots_here n c x e = rw (← here.0, ← here.1) e

  pub objects_here : (S : Shape) (n g : ℕ) (p : Pass) (s : State) → p ≡ at_state (record { reader = r; objects = n; greatest = g }) s →
      (x : Result (List Object × State) Refusal) → objects_at S p.reader.bytes.now p.objects (state_of p) ≡ x → objects_at S bs n s ≡ x
  objects_here S n g p s is x e = rw (← here.0) (subst (λ q. objects_at S q.reader.bytes.now q.objects (state_of q) ≡ x) is e)

-- the whole, stage after stage
module _ (S : Shape) (bs : List ℕ) where
  pub read_start_stop : (f : Refusal) → start_of bs ≡ Err f → read S bs ≡ Err f
  unfolding read
  read_start_stop f e = rw e

  module _ (a : ℕ) (start : start_of bs ≡ Ok a) where
    pub read_sign_stop : (f : Refusal) → sign_at S bs a ≡ Err f → read S bs ≡ Err f
    unfolding read
    read_sign_stop f e = rw (start, e)

    module _ (b : ℕ) (sign : sign_at S bs a ≡ Ok b) where
      pub read_counts_stop : (f : Refusal) → counts_at bs b ≡ Err f → read S bs ≡ Err f
      unfolding read
      read_counts_stop f e = rw (start, sign, e)

      module _ (n r d : ℕ) (counts : counts_at bs b ≡ Ok ((n, r), d)) where
        pub read_roots_stop : (f : Refusal) → roots_at bs n r (0, d) ≡ Err f → read S bs ≡ Err f
        unfolding read
        read_roots_stop f e = rw (start, sign, counts, e)

        module _ (vs : List ℕ) (s : State) (roots : roots_at bs n r (0, d) ≡ Ok (vs, s)) where
          pub read_objects_stop : (f : Refusal) → objects_at S bs n s ≡ Err f → read S bs ≡ Err f
          unfolding read
          read_objects_stop f e = rw (start, sign, counts, roots, e)

          module _ (os : List Object) (t : State) (objects : objects_at S bs n s ≡ Ok (os, t)) where
            pub read_left_over : t.1 < length bs → read S bs ≡ refuse fault.LeftOver t.1 0
            unfolding read
            read_left_over h = let e = lt-ltb t.1 (length bs) h in rw (start, sign, counts, roots, objects, e)

            pub read_ok : length bs ≤ t.1 → read S bs ≡ Ok (record { roots = vs; objects = os })
            unfolding read
            read_ok h = let e = le-ltb t.1 (length bs) h in rw (start, sign, counts, roots, objects, e)

-- the list with more in front
abbrev pub after : {A B E : Type 0} → List A → Result (List A × B) E → Result (List A × B) E
after front (Ok p) = Ok (front ++ p.0, p.1)
after front (Err e) = Err e

after_none : {A B E : Type 0} (x : Result (List A × B) E) → after [] x ≡ x
after_none (Ok p) = refl
after_none (Err e) = refl

after-prefixed : {A B E : Type 0} (front : List A) (a : A) (x : Result (List A × B) E) → after front (prefixed a x) ≡ after (front ++ (a ∷ [])) x
after-prefixed front a (Ok p) = ap (λ xs. Ok (xs, p.1)) (sym (append_assoc front (a ∷ []) p.0))
after-prefixed front a (Err e) = refl

-- what is collected from here on goes behind what was collected so far
pub record Going {A S E : Type 0} (step : ℕ → S → Result (A × S) E) (whole : Result (List A × S) E) (front : List A) (i count : ℕ) (s : S) : Type 0 where
  pub goes : whole ≡ after front (collect step i count s)

module _ {A S E : Type 0} (step : ℕ → S → Result (A × S) E) where
  pub going_start : (i count : ℕ) (s : S) → Going step (collect step i count s) [] i count s
  going_start i count s = record { goes = sym (after_none (collect step i count s)) }

  pub going_step : (whole : Result (List A × S) E) (front : List A) (i c count : ℕ) (s : S) (a : A) (t : S) → c ≡ suc count →
      step i s ≡ Ok (a, t) → Going step whole front i c s → Going step whole (front ++ (a ∷ [])) (i + 1) count t
  going_step whole front i c count s a t n e go =
      let x : collect step i c s ≡ prefixed a (collect step (i + 1) count t) = rw (n, e) in
      record { goes = go.goes ∙ ap (after front) x ∙ after-prefixed front a (collect step (i + 1) count t) }

-- the three loops of the reader
module _ (bs : List ℕ) (n : ℕ) where
  abbrev pub root_step : ℕ → ℕ → State → Result (ℕ × State) Refusal
  root_step r i t = value_at bs n 0 (root_role r i) t

  abbrev pub body_step : Shape → ℕ → ℕ → ℕ → State → Result (ℕ × State) Refusal
  body_step S k h i t = value_at bs n k (body_role S h i) t

  abbrev pub object_step : Shape → ℕ → State → Result (Object × State) Refusal
  object_step S k t = object_at S bs n k t

  pub roots-start : (r : ℕ) (s : State) → Going (root_step r) (roots_at bs n r s) [] 0 (r - 0) s
  unfolding roots_at
  roots-start r s = let e : r - 0 ≡ r = omega arith in rw e (going_start (root_step r) 0 r s)

  pub body-start : (S : Shape) (k h : ℕ) (s : State) → Going (body_step S k h) (body_at S bs n k h s) [] 1 (S.size h - 1) s
  unfolding body_at
  body-start S k h s = going_start (body_step S k h) 1 (S.size h - 1) s

  pub objects-start : (S : Shape) (s : State) → Going (object_step S) (objects_at S bs n s) [] (0 + 1) (n - 0) s
  unfolding objects_at
  objects-start S s = let e : n - 0 ≡ n = omega arith in rw e (going_start (object_step S) 1 n s)

-- what was told of the objects so far: their words, and the visitor after their headers
pub record Counted {V : Type 0} (S : Shape) (next : V → ℕ → V) (start now : V) (front : List Object) (w : ℕ) : Type 0 where
  pub total : w ≡ words S front
  pub seen : now ≡ fold next start (headers front)

words_push : (S : Shape) (front : List Object) (o : Object) → words S (front ++ (o ∷ [])) ≡ words S front + S.size o.header
words_push S [] o = omega arith
words_push S (p ∷ ps) o = omega (arith, words_push S ps o)

headers_push : (front : List Object) (o : Object) → headers (front ++ (o ∷ [])) ≡ headers front ++ (o.header ∷ [])
headers_push [] o = refl
headers_push (p ∷ ps) o = ap (λ xs. p.header ∷ xs) (headers_push ps o)

pub counted_step : {V : Type 0} (S : Shape) (next : V → ℕ → V) (start now then : V) (front : List Object) (w v h : ℕ) (o : Object) →
    Counted S next start now front w → o.header ≡ h → v ≡ w + S.size h → then ≡ next now h → Counted S next start then (front ++ (o ∷ [])) v
counted_step S next start now then front w v h o c e total seen =
    record {
      total = total ∙ ap₂ (λ x y. x + S.size y) c.total (sym e) ∙ sym (words_push S front o);
      seen = seen ∙ ap₂ next c.seen (sym e) ∙ sym (fold_push next start (headers front) o.header) ∙ ap (fold next start) (sym (headers_push front o));
    }

-- a check that goes as `read` tells its summary
module _ (S : Shape) where
  pub follows_summarised : (P : Summary → Content → Type 0) (r : Result Summary Refusal) (x : Result Content Refusal) →
      Follows r x (λ s c. (s ≡ summary_of S c) × P s c) → r ≡ summarised S x
  follows_summarised P (Ok s) x f = ap Ok f.2.0 ∙ ap (summarised S) (sym f.1)
  follows_summarised P (Err e) x f = ap (summarised S) (sym f)
