use Rattle.std.proofs.Common.{◌≡◌, ap, arith}
use Rattle.fg_words.specs.declared.Word.{Word}
use Rattle.fg_words.specs.Word.{zero_word}
use Rattle.fg_words.proofs.WordLemmas.{word-ext}
use Rattle.fg_words.proofs.Word.is_zero.Goals as goal

-- src/lib.rt:67:5
pub returns-then-self-eq0-3 : goal.returns-then-self-eq0-3
returns-then-self-eq0-3 c =
    let self = c.args.self.now in
    let pt : self.pt ≡ 0 = grind arith in
    let ts : self.ts ≡ 0 = grind arith in
    let len : self.len ≡ 0 = grind arith in
    (λ t. word-ext self zero_word pt ts len (c.is_zero.ensures.0 t), λ e. c.is_zero.ensures.1 (ap (λ (w : Word). w.bytes) e))
