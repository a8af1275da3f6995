-- How the values that contracts see of tallies are told apart. No public contract cites it.
use Rattle.std.specs.Prelude.{ℕ, List, Option, refl}
use Rattle.std.specs.Ordering.{nat_cmp}
use Rattle.std.specs.Coded.{Coded, code_by, coded×, coded_ℕ, coded_list, coded_option}
use Rattle.std.specs.FinSet as set
use Rattle.fg_words.specs.declared.Word.{Word}
use Rattle.fg_peel.specs.Equation.{Equation}
use Rattle.fg_turn.specs.Standing.{TurnId, turn_id_coded, Standing, standing_coded}
use Rattle.fg_core.specs.Board.{BoardState}
use Rattle.fg_core.specs.Codings.{board_code, key_code, equation_code}
use Rattle.fg_core.specs.declared.key.Key.{Key}
use Rattle.fg_tally.specs.Folding.{FoldingState}
use Rattle.fg_tally.specs.Tally.{TallyState}

abbrev pub word_code : Coded Word
word_code =
    code_by (ℕ × (ℕ × (ℕ × List ℕ))) (coded× coded_ℕ (coded× coded_ℕ (coded× coded_ℕ (coded_list coded_ℕ))))
    (λ w. (w.pt, (w.ts, (w.len, w.bytes)))) (λ p. record { pt = p.0; ts = p.1.0; len = p.1.1.0; bytes = p.1.1.1 })
    (λ _. refl)

abbrev pub folding_code : Coded FoldingState
folding_code =
    code_by (Key × (Equation × (set.FinSet nat_cmp × Word)))
    (coded× key_code (coded× equation_code (coded× (set.code coded_ℕ) word_code)))
    (λ f. (f.key, (f.equation, (f.folded, f.remainder))))
    (λ p. record { key = p.0; equation = p.1.0; folded = p.1.1.0; remainder = p.1.1.1 }) (λ _. refl)

abbrev pub tally_code : Coded TallyState
tally_code =
    code_by (TurnId × (Standing BoardState × (Option FoldingState)))
    (coded× turn_id_coded (coded× (standing_coded board_code) (coded_option folding_code)))
    (λ t. (t.board, (t.pass, t.held))) (λ p. record { board = p.0; pass = p.1.0; held = p.1.1 }) (λ _. refl)
