use Rattle.std.proofs.Common.{◌≡◌, ℕ, Ok, ap, ◌∙◌}
use Rattle.std.proofs.lemmas.Result.{err_from_is_err_and}
use Rattle.image.specs.Read.{start_of, sign_at, counts_at, roots_at, objects_at}
use Rattle.image.proofs.Exact.{roots-length, objects-length}
use Rattle.image.proofs.Stages.{Reads, moved, sign_here, counts_here, roots_here, objects_here, read_start_stop, read_sign_stop, read_counts_stop, read_roots_stop, read_objects_stop, read_left_over, read_ok}
use Rattle.image.proofs.strict.read_image.Given as given
use Rattle.image.proofs.strict.read_image.Goals as goal
use Rattle.image.proofs.strict.read_image.Goals.{In_ok-reader, In_ok-sign, In_ok-objects, In_ok-roots, In_ok-words}

-- after each stage: the reader is over the bytes of the image, and the stage gave what its definition gives there
start : (g : given.Over) (c : In_ok-reader g) →
    (at : ℕ) × Reads c.args.bytes.now at c.in_ok-reader.reader × (start_of c.args.bytes.now ≡ Ok at)
start g c = let q = c.in_ok-reader.ensures in (q.0, q.2, q.1)

sign : (g : given.Over) (c : In_ok-sign g) (at : ℕ) → Reads c.args.bytes.now at c.in_ok-reader.reader →
    (next : ℕ) × Reads c.args.bytes.now next c.sign.new.reader × (sign_at g.L.Layout.shape c.args.bytes.now at ≡ Ok next)
sign g c at here =
    let q = c.in_ok-sign.ensures in
    (q.0, moved _ at c.in_ok-reader.reader here _ q.0 q.2, sign_here _ at c.in_ok-reader.reader here g.L.Layout.shape _ q.1)

counts : (g : given.Over) (c : In_ok-objects g) (at : ℕ) → Reads c.args.bytes.now at c.sign.new.reader →
    (next : ℕ) × Reads c.args.bytes.now next c.counts.new.reader × (counts_at c.args.bytes.now at ≡ Ok ((c.in_ok-objects.objects, c.in_ok-objects.roots), next))
counts g c at here =
    let q = c.in_ok-objects.ensures in
    (q.0.1, moved _ at c.sign.new.reader here _ q.0.1 q.2.1, counts_here _ at c.sign.new.reader here _ q.1 ∙ ap (λ x. Ok (x, q.0.1)) q.2.0)

roots : (g : given.Over) (c : In_ok-roots g) (at : ℕ) → Reads c.args.bytes.now at c.counts.new.reader →
    roots_at c.args.bytes.now c.in_ok-objects.objects c.in_ok-objects.roots (0, at) ≡ Ok c.in_ok-roots.ensures.0
roots g c at here = roots_here _ at c.counts.new.reader here _ _ _ c.in_ok-roots.ensures.1

objects : (g : given.Over) (c : In_ok-words g) (at : ℕ) → Reads c.args.bytes.now at c.counts.new.reader →
    objects_at g.L.Layout.shape c.args.bytes.now c.in_ok-objects.objects c.in_ok-roots.ensures.0.1 ≡ Ok c.in_ok-words.ensures.0
objects g c at here = objects_here _ at c.counts.new.reader here g.L.Layout.shape _ 0 _ _ c.in_ok-roots.ensures.2 _ c.in_ok-words.ensures.1

pub returns-in_err-reader : goal.returns-in_err-reader
returns-in_err-reader g c =
    let p = err_from_is_err_and c.from_residual.result c.from_residual.ensures.1 in
    rw (p.1, p.2) (read_start_stop g.L.Layout.shape c.args.bytes.now _ c.in_err-reader.ensures)

pub returns-in_err-sign : goal.returns-in_err-sign
returns-in_err-sign g c =
    let p = err_from_is_err_and c.from_residual-in_err-sign.result c.from_residual-in_err-sign.ensures.1 in
    let a = start g (goal.at.returns-in_err-sign g c).In_ok-reader in
    rw (p.1, p.2) (read_sign_stop g.L.Layout.shape c.args.bytes.now _ a.2 _ (sign_here _ a.0 c.in_ok-reader.reader a.1 g.L.Layout.shape _ c.in_err-sign.ensures))

pub returns-in_err-objects : goal.returns-in_err-objects
returns-in_err-objects g c =
    let p = err_from_is_err_and c.from_residual-in_err-objects.result c.from_residual-in_err-objects.ensures.1 in
    let a = start g (goal.at.returns-in_err-objects g c).In_ok-reader in
    let b = sign g (goal.at.returns-in_err-objects g c).In_ok-sign a.0 a.1 in
    rw (p.1, p.2) (read_counts_stop g.L.Layout.shape c.args.bytes.now _ a.2 _ b.2 _ (counts_here _ b.0 c.sign.new.reader b.1 _ c.in_err-objects.ensures))

pub returns-in_err-roots : goal.returns-in_err-roots
returns-in_err-roots g c =
    let p = err_from_is_err_and c.from_residual-in_err-roots.result c.from_residual-in_err-roots.ensures.1 in
    let a = start g (goal.at.returns-in_err-roots g c).In_ok-reader in
    let b = sign g (goal.at.returns-in_err-roots g c).In_ok-sign a.0 a.1 in
    let d = counts g (goal.at.returns-in_err-roots g c).In_ok-objects b.0 b.1 in
    rw (p.1, p.2) (read_roots_stop g.L.Layout.shape c.args.bytes.now _ a.2 _ b.2 _ _ _ d.2 _ (roots_here _ d.0 c.counts.new.reader d.1 _ _ _ c.in_err-roots.ensures))

pub returns-in_err-words : goal.returns-in_err-words
returns-in_err-words g c =
    let p = err_from_is_err_and c.from_residual-in_err-words.result c.from_residual-in_err-words.ensures.1 in
    let a = start g (goal.at.returns-in_err-words g c).In_ok-reader in
    let b = sign g (goal.at.returns-in_err-words g c).In_ok-sign a.0 a.1 in
    let d = counts g (goal.at.returns-in_err-words g c).In_ok-objects b.0 b.1 in
    let v = roots g (goal.at.returns-in_err-words g c).In_ok-roots d.0 d.1 in
    rw (p.1, p.2) (read_objects_stop g.L.Layout.shape c.args.bytes.now _ a.2 _ b.2 _ _ _ d.2 _ _ v _
    (objects_here _ d.0 c.counts.new.reader d.1 g.L.Layout.shape _ 0 _ _ c.in_ok-roots.ensures.2 _ c.in_err-words.ensures))

pub returns-then-place-bytes : goal.returns-then-place-bytes
returns-then-place-bytes g c =
    let a = start g (goal.at.returns-then-place-bytes g c).In_ok-reader in
    let b = sign g (goal.at.returns-then-place-bytes g c).In_ok-sign a.0 a.1 in
    let d = counts g (goal.at.returns-then-place-bytes g c).In_ok-objects b.0 b.1 in
    let v = roots g (goal.at.returns-then-place-bytes g c).In_ok-roots d.0 d.1 in
    let o = objects g (goal.at.returns-then-place-bytes g c).In_ok-words d.0 d.1 in
    let place : c.position-place.result ≡ c.in_ok-words.ensures.0.1.1 = c.position-place.ensures ∙ ap (λ x. x.reader.position) c.in_ok-words.ensures.2.1 in
    rw (c.at.ensures, place) (read_left_over g.L.Layout.shape c.args.bytes.now _ a.2 _ b.2 _ _ _ d.2 _ _ v _ _ o (rw (← place) c.if-place-bytes.true))

pub returns : goal.returns
returns g c =
    let a = start g (goal.at.returns g c).In_ok-reader in
    let b = sign g (goal.at.returns g c).In_ok-sign a.0 a.1 in
    let d = counts g (goal.at.returns g c).In_ok-objects b.0 b.1 in
    let v = roots g (goal.at.returns g c).In_ok-roots d.0 d.1 in
    let o = objects g (goal.at.returns g c).In_ok-words d.0 d.1 in
    let q = c.in_ok-words.ensures in
    let place : c.position-place.result ≡ q.0.1.1 = c.position-place.ensures ∙ ap (λ x. x.reader.position) q.2.1 in
    let n = objects-length g.L.Layout.shape c.args.bytes.now _ _ q.0.0 q.0.1 o in
    let r = roots-length c.args.bytes.now _ _ _ c.in_ok-roots.ensures.0.0 c.in_ok-roots.ensures.0.1 v in (
      record { roots = c.in_ok-roots.ensures.0.0; objects = q.0.0 },
      read_ok g.L.Layout.shape c.args.bytes.now _ a.2 _ b.2 _ _ _ d.2 _ _ v _ _ o (rw (← place) c.if-place-bytes.false),
      (cc (n, r, q.2.0), q.2.2),
    )
