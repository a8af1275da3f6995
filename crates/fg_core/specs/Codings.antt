-- How the values that contracts see of a board are told apart. No public contract cites it.
use Rattle.std.specs.Prelude.{ℕ, refl}
use Rattle.std.specs.Ordering.{nat_cmp}
use Rattle.std.specs.Coded.{Coded, code_by, coded×, coded_ℕ}
use Rattle.std.specs.FinSet as set
use Rattle.fg_words.specs.declared.Word.{Word}
use Rattle.fg_peel.specs.Equation.{Equation}
use Rattle.fg_playout.specs.State.{Words}
use Rattle.fg_buffer.specs.BufferEntries.{word_code, words_code}
use Rattle.fg_desk.specs.Contents.{Contents}
use Rattle.fg_desk.specs.Inside.{contents_code}
use Rattle.fg_core.specs.Board.{BoardState, JobState}
use Rattle.fg_core.specs.declared.key.Key.{Key}

abbrev pub board_code : Coded BoardState
board_code =
    code_by (Contents × (set.FinSet nat_cmp × set.FinSet nat_cmp))
    (coded× contents_code (coded× (set.code coded_ℕ) (set.code coded_ℕ)))
    (λ b. (b.desk, (b.vouched, b.handed_out)))
    (λ p. record { desk = p.0; vouched = p.1.0; handed_out = p.1.1 }) (λ _. refl)

abbrev pub key_code : Coded Key
key_code =
    code_by (ℕ × (ℕ × ℕ)) (coded× coded_ℕ (coded× coded_ℕ coded_ℕ)) (λ k. (k.place, (k.serial, k.epoch)))
    (λ p. record { place = p.0; serial = p.1.0; epoch = p.1.1 }) (λ _. refl)

abbrev pub equation_code : Coded Equation
equation_code =
    code_by (ℕ × (ℕ × (ℕ × Word))) (coded× coded_ℕ (coded× coded_ℕ (coded× coded_ℕ word_code)))
    (λ e. (e.base, (e.offset, (e.count, e.parity))))
    (λ p. record { base = p.0; offset = p.1.0; count = p.1.1.0; parity = p.1.1.1 }) (λ _. refl)

abbrev pub job_code : Coded JobState
job_code =
    code_by (Key × (Equation × Words)) (coded× key_code (coded× equation_code words_code))
    (λ j. (j.key, (j.equation, j.inputs))) (λ p. record { key = p.0; equation = p.1.0; inputs = p.1.1 }) (λ _. refl)
