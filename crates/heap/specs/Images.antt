-- What is saved of a heap.
use Rattle.std.specs.Prelude.{ℕ}

-- how many places a heap has: 32 regions of 1,024 words each
unfoldable pub places : ℕ
places = 32768
