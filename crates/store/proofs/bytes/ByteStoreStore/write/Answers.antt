use Rattle.std.proofs.Common.{◌≡◌, length, vec_items, ap, ◌∙◌, rules}
use Rattle.std.proofs.lemmas.List.{with_items_is}
use Rattle.store.specs.Words.{words_of, spare_of, word_done, word_written}
use Rattle.store.proofs.Laws.{done-words, words-written, spare-written}
use Rattle.store.proofs.bytes.ByteStoreStore.write.Goals as goal

pub returns : goal.returns
returns c =
    let v = c.args.self.now.bytes in
    let i = c.args.index in
    let w = c.args.word in
    let lent = c.as_mut_slice.ensures.value in
    let long : length c.write_word.new.bytes ≡ v.len = search rules in
    let is = with_items_is v c.write_word.new.bytes long ∙ c.write_word.ensures.after ∙ ap (λ bs. word_written bs i w) lent in
    record {
      answer = c.write_word.ensures.answer ∙ ap (λ bs. word_done bs i) lent ∙ done-words (vec_items v) i;
      after = ap words_of is ∙ words-written (vec_items v) i w;
      spare = ap spare_of is ∙ spare-written (vec_items v) i w;
    }
