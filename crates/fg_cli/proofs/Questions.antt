-- Questions: each has words of its own, and these have no reading.
use Rattle.std.proofs.Common.{◌≡◌, ℕ, true, false, List, [], ◌∷◌, ◌++◌, cond, nat_eq, map, refl, ap, sym, ◌∙◌, arith}
use Rattle.fg_cli.specs.declared.Order.{Order}
use Rattle.fg_cli.specs.declared.grammar.Command.{Command}
use Rattle.fg_cli.specs.declared.grammar.Command.TheVariants as command
use Rattle.fg_cli.specs.declared.help.Question.{Question}
use Rattle.fg_cli.specs.declared.help.Question.TheVariants.{Help, HelpOn, Version}
use Rattle.fg_cli.specs.declared.settings.Setting.{Setting}
use Rattle.fg_cli.specs.Grammar.{command_text, row, value_text}
use Rattle.fg_cli.specs.Help.{IsQuestion, question_words}
use Rattle.fg_cli.specs.Lines.{setting_text}
use Rattle.fg_cli.specs.Orders.{IsReading}
use Rattle.fg_cli.proofs.Keys.{command_injective, no_sign, word_parts}
use Rattle.fg_cli.proofs.Lines.{cons_parts}

-- the first and the third letter of the first word
abbrev first_letter : List (List ℕ) → ℕ
first_letter ((a ∷ word) ∷ words) = a
first_letter words = 0

abbrev third_letter : List (List ℕ) → ℕ
third_letter ((a ∷ b ∷ c ∷ word) ∷ words) = c
third_letter words = 0

-- no command begins with a dash
no_dash : (c : Command) (word : List ℕ) (words others : List (List ℕ)) → command_text c ∷ words ≡ (45 ∷ word) ∷ others → ⊥
no_dash command.Repair word words others e = let same : 114 ≡ 45 = ap first_letter e in omega (arith, same)
no_dash _ word words others e = let same = ap first_letter e in omega (arith, same)

same_words : (p q : Question) → question_words p ≡ question_words q → p ≡ q
same_words Help Help e = refl
same_words Help (HelpOn c) e = absurd (no_dash c _ _ _ (sym e))
same_words Help Version e = let same : 104 ≡ 118 = ap third_letter e in absurd (omega (arith, same))
same_words (HelpOn c) Help e = absurd (no_dash c _ _ _ e)
same_words (HelpOn b) (HelpOn c) e =
    ap HelpOn (command_injective b c (cons_parts (command_text b) (command_text c) _ _ e).0)
same_words (HelpOn c) Version e = absurd (no_dash c _ _ _ e)
same_words Version Help e = let same : 118 ≡ 104 = ap third_letter e in absurd (omega (arith, same))
same_words Version (HelpOn c) e = absurd (no_dash c _ _ _ (sym e))
same_words Version Version e = refl

pub one_question : (words : List (List ℕ)) (p q : Question) → IsQuestion words p → IsQuestion words q → p ≡ q
one_question words p q h k = same_words p q (sym h ∙ k)

-- a text with an equals sign has one
has_sign : (a x : List ℕ) → no_sign (a ++ 61 ∷ x) ≡ false
has_sign [] x = refl
has_sign (c ∷ a) x =
    elim (nat_eq c 61) as (λ b. cond b false (no_sign (a ++ 61 ∷ x)) ≡ false) [ true ↦ refl | false ↦ has_sign a x ]

-- no setting is a word without one
no_setting : (s : Setting) (word : List ℕ) → no_sign word ≡ true → setting_text s ≡ word → ⊥
no_setting s word plain e =
    let signed : no_sign (setting_text s) ≡ false =
    ap (λ t. no_sign t) (word_parts s.key s.value) ∙ has_sign (row s.key).name (value_text (row s.key).range s.value) in
    let unsigned : no_sign (setting_text s) ≡ true = ap (λ t. no_sign t) e ∙ plain in
    cc

no_settings : (settings : List Setting) (word : List ℕ) → no_sign word ≡ true → map setting_text settings ≡ word ∷ [] → ⊥
no_settings [] word plain e = cc
no_settings (s ∷ settings) word plain e =
    no_setting s word plain (cons_parts (setting_text s) word (map setting_text settings) [] e).0

pub no_reading : (words : List (List ℕ)) (order : Order) (question : Question) → IsQuestion words question → IsReading words order → ⊥
no_reading words order Help e h = no_dash h.0 _ _ _ (sym h.2.spelled ∙ e)
no_reading words order (HelpOn c) e h =
    no_settings h.1 _ refl (cons_parts (command_text h.0) (command_text c) (map setting_text h.1) _ (sym h.2.spelled ∙ e)).1
no_reading words order Version e h = no_dash h.0 _ _ _ (sym h.2.spelled ∙ e)
