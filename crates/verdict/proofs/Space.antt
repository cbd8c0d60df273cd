-- Three regions bound what is placed: words, the words left in the open region and the free regions
-- but one never add up to more. And each cabling object has three words at least, so few fit a file.
use Rattle.std.proofs.Common.{◌≡◌, ℕ, ◌+◌, ◌-◌, ◌*◌, ◌≤◌, true, ltb, leb, List, [], ◌∷◌, length, Some, None, Ok, Err, fold, Option, Result, is_some, option_and_then, if◌then◌else◌, sym, ap, ◌∙◌, subst, arith}
use Rattle.std.proofs.lemmas.Bool.{cond_both, leb-true}
use Rattle.layout.specs.declared.cabling.Kind.{Kind}
use Rattle.layout.specs.declared.cabling.Kind.TheVariants as kind
use Rattle.layout.specs.Cabling.{cabling, kind_of, kind_size, legal_of, size_of}
use Rattle.image.specs.declared.refusals.Refusal.{Refusal}
use Rattle.image.specs.declared.strict.Summary.{Summary}
use Rattle.image.specs.Content.{Object, Content, headers, words}
use Rattle.image.specs.Read.{read}
use Rattle.image.specs.Numbering.{Ordered, Exact}
use Rattle.image.specs.Stage.{WithinBytes, summary_of, summarised}
use Rattle.verdict.specs.declared.placement.Placement.{Placement}
use Rattle.verdict.specs.declared.placement.Space.{Space}
use Rattle.verdict.specs.declared.Verdict.{Verdict}
use Rattle.verdict.specs.declared.Verdict.TheVariants as verdict
use Rattle.verdict.specs.Space.{space_after, placed, placed_header, start, placed_all, after_placing, after_reading, verdict_of, WorkListSuffices, Fits}

-- w words are placed
abbrev Room : ℕ → Option Space → Type 0
Room w (Some s) = (1 ≤ s.free) × (w + s.left + 1024 * (s.free - 1) ≤ 3 * 1024)
Room w None = Unit {0}

placed-room : (w size : ℕ) (p : Placement) → size ≤ 64 → Room w p.space → Room (w + size) (placed p size).space
placed-room w size p l r = by p.space r
  where
    by : (o : Option Space) → Room w o → Room (w + size) (option_and_then (λ s. space_after s size) o)
    by None h = tt
    by (Some s) h =
        cond_both (leb size s.left) _ _ (Room (w + size))
        (λ t. let e = leb-true size s.left t in (h.0, omega (arith, h.1)))
        (λ t. cond_both (leb 2 s.free) _ _ (Room (w + size)) (λ u. let e = leb-true 2 s.free u in (omega arith, omega (arith, h.1))) (λ u. tt))

kind_size_lem : (k : Kind) → (3 ≤ kind_size k) × (kind_size k ≤ 64)
kind_size_lem kind.Room = (omega arith, omega arith)
kind_size_lem kind.Rack = (omega arith, omega arith)
kind_size_lem kind.Panel = (omega arith, omega arith)
kind_size_lem kind.Port = (omega arith, omega arith)
kind_size_lem kind.Cable = (omega arith, omega arith)
kind_size_lem kind.Label = (omega arith, omega arith)

most : (o : Option Kind) → size_of o ≤ 64
most (Some k) = (kind_size_lem k).1
most None = omega arith

least : (o : Option Kind) → legal_of o ≡ true → 3 ≤ size_of o
least (Some k) e = (kind_size_lem k).0
least None e = let z : ◌≡◌ {A = ℕ} 0 1 = cc in absurd (omega arith)

all_room : (w : ℕ) (p : Placement) (os : List Object) → Room w p.space → Room (w + words cabling os) (fold placed_header p (headers os)).space
all_room w p [] r = let e : w ≡ w + 0 = omega arith in subst (λ x. Room x p.space) e r
all_room w p (o ∷ os) r =
    let s : ℕ = cabling.size o.header in
    let e : w + s + words cabling os ≡ w + (s + words cabling os) = omega arith in
    subst (λ x. Room x (fold placed_header (placed p s) (headers os)).space) e
    (all_room (w + s) (placed p s) os (placed-room w s p (most (kind_of o.header)) r))

fits : (p : Placement) (c : Content) → Room (words cabling c.objects) p.space → Fits (after_placing p c)
fits p c r = by p.space r
  where
    by : (o : Option Space) → Room (words cabling c.objects) o → Fits (if is_some o then verdict.Sound (summary_of cabling c) else verdict.NoSpace)
    by (Some s) h = omega (arith, h.1)
    by None h = tt

reading_fits : (r : Result Content Refusal) → Fits (after_reading r)
reading_fits (Ok c) =
    let w : ℕ = words cabling c.objects in
    let e : 0 + w ≡ w = omega arith in
    fits (placed_all (headers c.objects)) c (subst (λ x. Room x (placed_all (headers c.objects)).space) e (all_room 0 start c.objects (omega arith, omega arith)))
reading_fits (Err f) = tt

three_words : (n k m : ℕ) (os : List Object) → Ordered cabling n k m os → 3 * length os ≤ words cabling os
three_words n k m [] a = omega arith
three_words n k m (o ∷ os) a = omega (arith, least (kind_of o.header) a.2, three_words n (k + 1) _ os a.5)

pub work_list : (bs : List ℕ) (r : Result Summary Refusal) → r ≡ summarised cabling (read cabling bs) → Exact cabling bs → WithinBytes bs r → WorkListSuffices bs
work_list bs r e exact within c short ok =
    let w : words cabling c.objects ≤ length bs = subst (WithinBytes bs) (e ∙ ap (summarised cabling) ok) within in
    omega (arith, three_words _ _ _ c.objects ((exact c).0 ok).0.objects)

pub verdict_fits : (bs : List ℕ) (v : Verdict) → v ≡ verdict_of bs → Fits v
verdict_fits bs v e = subst Fits (sym e) (cond_both (ltb 8192 (length bs)) _ _ Fits (λ _. tt) (λ _. reading_fits (read cabling bs)))
