use Rattle.std.proofs.Common.{subst, sym}
use Rattle.fg_words.specs.declared.Word.{Word}
use Rattle.fg_words.specs.Word.{IsMedia}
use Rattle.fg_drill.proofs.Truth.{word_below}
use Rattle.fg_drill.proofs.Written.{word_is_media}
use Rattle.fg_drill.proofs.laws.sent.sent_words_are_media.Goals as goal

pub returns : goal.returns
returns c = λ settings payloads can are slot word is.
    let below = word_below settings payloads slot word is in
    subst (λ (w : Word). IsMedia w) (sym below.1) (word_is_media settings payloads can.packets.1 are slot below.0)
