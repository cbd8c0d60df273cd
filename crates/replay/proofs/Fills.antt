-- The loop over the regions: one fill more.
use Rattle.std.proofs.Common.{◌≡◌, ℕ, zero, suc, ◌+◌, List, [], ◌∷◌, set, refl, ap, ◌∙◌, arith}
use Rattle.tables.specs.Regions.{region_at}
use Rattle.tables.specs.declared.region.Region.{Region}
use Rattle.replay.specs.Running.{fills_from}

pub fills-none : (gs : List Region) (g : ℕ) (fs : List ℕ) → fs ≡ fills_from gs g 0 fs
fills-none gs g [] = refl
fills-none gs g (f ∷ fs) = refl

fills-next : (gs : List Region) (g n : ℕ) (fs : List ℕ)
    → set (fills_from gs g n fs) n (region_at gs (g + n)).fill ≡ fills_from gs g (suc n) fs
fills-next gs g zero [] = refl
fills-next gs g (suc n) [] = refl
fills-next gs g zero (f ∷ fs) =
    let here : g + zero ≡ g = omega arith in
    ap (λ k. (region_at gs k).fill ∷ fs) here ∙ ap (λ l. (region_at gs g).fill ∷ l) (fills-none gs (suc g) fs)
fills-next gs g (suc n) (f ∷ fs) =
    let on : g + suc n ≡ suc g + n = omega arith in
    ap (λ k. (region_at gs g).fill ∷ set (fills_from gs (suc g) n fs) n (region_at gs k).fill) on
    ∙ ap (λ l. (region_at gs g).fill ∷ l) (fills-next gs (suc g) n fs)

pub fills_more : (gs : List Region) (n : ℕ) (fs : List ℕ)
    → set (fills_from gs 0 n fs) n (region_at gs n).fill ≡ fills_from gs 0 (n + 1) fs
fills_more gs n fs =
    let here : n ≡ 0 + n = omega arith in
    let on : suc n ≡ n + 1 = omega arith in
    ap (λ k. set (fills_from gs 0 n fs) n (region_at gs k).fill) here ∙ fills-next gs 0 n fs ∙ ap (λ k. fills_from gs 0 k fs) on
