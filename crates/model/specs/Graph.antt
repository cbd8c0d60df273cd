-- Objects and the references between them. In a heap objects go by their places, in the heap that never collects by their
-- numbers less 1. In both a reference is that name + 1, and nil is 0.
use Rattle.std.specs.Prelude.{◌≡◌, ℕ, suc, Bool, true}
use Rattle.layout.specs.Shape.{Shape}

pub record Graph : Type 0 where
  -- which names are objects
  pub node : ℕ → Bool
  -- the header of an object
  pub head : ℕ → ℕ
  -- the word at a position of an object, from 1
  pub field : ℕ → ℕ → ℕ
  -- what each root holds
  pub root : ℕ → ℕ

-- the objects that the roots reach, by any number of steps or none
pub data Reach (S : Shape) (g : Graph) : ℕ → Type 0 where
  by_root : (k : ℕ) {o : ℕ} → g.root k ≡ suc o → Reach S g o
  by_field : {o : ℕ} (i : ℕ) {p : ℕ} → Reach S g o → S.reference (g.head o) i ≡ true → g.field o i ≡ suc p → Reach S g p
