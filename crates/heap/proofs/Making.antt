-- A heap that was just made is sound: it has no objects, every region is blank and free, and every set is empty.
use Rattle.std.proofs.Common.{◌≡◌, ℕ, ◌/◌, min, List, length, replicate, None, sym, refl, ap, ◌∙◌, true≢false, arith}
use mathlib.Core.Bool.{false≢true}
use Rattle.std.proofs.lemmas.Option.{none-some}
use Rattle.layout.specs.Shape.{Shape}
use Rattle.memory.specs.Objects.{making}
use Rattle.tables.specs.declared.region.Region.{Region}
use Rattle.tables.specs.Regions.{blank, region_at, is_free}
use Rattle.tables.proofs.Tables.{no_tables}
use Rattle.heap.specs.Sound.{Sound}
use Rattle.heap.proofs.Appending.{tiles_none}
use Rattle.heap.proofs.Opening.{same_everywhere, blank_are_free}

all-blank : (g : ℕ) → region_at (replicate 32 blank) g ≡ blank
all-blank g = same_everywhere 32 g blank

pub making_sound : (S : Shape) (ws sp : List ℕ) → Sound S (making ws sp)
making_sound S ws sp =
    record {
      rooms = refl;
      entries = refl;
      whole = refl;
      tiled = λ g. tiles_none (ap (λ (e : Region). e.fill) (all-blank g)) (λ k. refl);
      headed = λ p y. absurd (false≢true y);
      rooted = λ k p e. absurd (none-some p (sym (same_everywhere 64 k None) ∙ e));
      linked = λ p i q y. absurd (false≢true y);
      spared = λ l. blank_are_free (min (length ws / 1024) 32) l;
      vacant = λ g y.
          record {
            unused = ap (λ (e : Region). e.fill) (all-blank g);
            lifeless = ap (λ (e : Region). e.live) (all-blank g);
            forgetful = λ d. no_tables g d;
            clean = λ d e. refl;
            forgotten = λ other d e. no_tables other d;
          };
      used = λ g y. absurd (true≢false (sym (ap (λ (e : Region). is_free e.kind) (all-blank g)) ∙ y));
      opened = λ g e. absurd (true≢false (sym (ap (λ (e : Region). is_free e.kind) (all-blank g)) ∙ ap is_free e));
      latest = λ l. l;
      carded = λ p i q y. absurd (false≢true y);
      marked = λ p y. absurd (false≢true y);
      awaited = λ p y. absurd (false≢true y);
      settled = λ f p. refl;
      unmarked = λ f p. refl;
      weights = refl;
      tallied = λ e. absurd (grind arith);
      living = λ g. let z : (region_at (replicate 32 blank) g).live ≡ 0 = ap (λ (e : Region). e.live) (all-blank g) in omega arith;
      weighed = λ e. absurd (grind arith);
    }
