-- What the stores hold.
use Rattle.std.specs.Prelude.{ℕ, List, vec_items}
use Rattle.store.specs.declared.words.WordStore.{WordStore}
use Rattle.store.specs.declared.bytes.ByteStore.{ByteStore}
use Rattle.store.specs.Words.{words_of, spare_of}

-- the words of a store over words
abbrev pub words_in : WordStore → List ℕ
words_in s = vec_items s.items

-- the bytes of a store over bytes
abbrev pub bytes_in : ByteStore → List ℕ
bytes_in s = vec_items s.bytes

-- the words that they hold
abbrev pub decoded_words : ByteStore → List ℕ
decoded_words s = words_of (bytes_in s)

-- those that belong to no word
abbrev pub spare_bytes : ByteStore → List ℕ
spare_bytes s = spare_of (bytes_in s)
