-- What follows from what was told of a board.
use Rattle.std.proofs.Common.{◌≡◌, ◌≤◌, ◌+◌, ℕ, Bool, refl, List, Some, None, IsTrue, sym, ap, subst, ◌∙◌, ⊎_elim, arith}
use Rattle.std.proofs.lemmas.Bool.{cases_lt}
use Rattle.std.proofs.lemmas.List.Elements.{All-contains}
use Rattle.std.specs.List.{Contains}
use Rattle.std.specs.FinMap.{get}
use Rattle.fg_words.specs.declared.Word.{Word}
use Rattle.fg_words.specs.Word.{word_xor}
use Rattle.fg_peel.specs.Equation.{Equation, slots, others, IsSettled}
use Rattle.fg_peel.proofs.Options.{value_of, has_value}
use Rattle.fg_peel.proofs.Lists.{others-element}
use Rattle.fg_peel.proofs.Sums.{sum_at-agree}
use Rattle.fg_playout.specs.State.{Live, live_equations}
use Rattle.fg_playout.specs.Admission.{kept_count}
use Rattle.fg_playout.specs.Facts.{Holds}
use Rattle.fg_playout.specs.Laws.{LiveStandUnderSerials}
use Rattle.fg_desk.specs.Contents.{CanFill, known_in}
use Rattle.fg_core.specs.Board.{BoardState, IsLive, IsCurrent, mark_of}
use Rattle.fg_core.specs.Views.{Told, word_at, equation_is, IsBorneOut, Grows, IsWorked, IsChecked}
use Rattle.fg_core.specs.Laws.{WorkedWordsFollow, CheckedComeOut}
use Rattle.fg_core.specs.declared.key.Key.{Key}

module _ (board : BoardState) (facts : Holds board.desk.state) where
  -- What stands under a serial number is live.
  pub is_listed :
      LiveStandUnderSerials → (serial : ℕ) (live : Live) → IsLive board serial live
      → Contains (live_equations board.desk.state) live.equation
  is_listed stand serial live is = (stand board.desk.state live.equation).1 (serial, live, is, refl)

  -- No slot of a live equation is more than 100 positions before the mark.
  pub slot_is_kept :
      (serial : ℕ) (live : Live) → IsLive board serial live → (slot : ℕ) → Contains (slots live.equation) slot
      → mark_of board ≤ slot + kept_count
  slot_is_kept serial live is slot c = ⊎_elim
      (λ below.
      let v = value_of (get board.desk.state.kept slot) ((facts.live serial live is).based slot c below) in
      (facts.kept slot v.0 v.1).near)
      (λ ahead. omega arith)
      (cases_lt slot (mark_of board))

module _
    (board : BoardState) (facts : Holds board.desk.state) (told : List Told) (grows : Grows told board) (key : Key)
    (live : Live) (current : IsCurrent board key live) where
  -- The equation that was told is the one that is live.
  pub told_is_live : (equation : Equation) → Contains told (equation_is key.serial equation) → live.equation ≡ equation
  told_is_live equation c =
      (All-contains (IsBorneOut board) told (equation_is key.serial equation) grows c).1 live current.live_is

  -- A word that was told at a slot near the mark is known there.
  pub told_is_known :
      (slot : ℕ) (word : Word) → mark_of board ≤ slot + kept_count → Contains told (word_at key.epoch slot word)
      → known_in board.desk slot ≡ Some word
  told_is_known slot word near c =
      (All-contains (IsBorneOut board) told (word_at key.epoch slot word) grows c).1 current.epoch_is near

  -- So is one that was told at a slot of the key's equation.
  pub told_in_equation :
      (equation : Equation) → Contains told (equation_is key.serial equation) → (slot : ℕ) → Contains (slots equation) slot
      → (word : Word) → Contains told (word_at key.epoch slot word) → known_in board.desk slot ≡ Some word
  told_in_equation equation listed slot c word t =
      let at : Contains (slots live.equation) slot =
      subst (λ (e : Equation). Contains (slots e) slot) (sym (told_is_live equation listed)) c in
      told_is_known slot word (slot_is_kept board facts key.serial live current.live_is slot at) t

  -- A word that follows from what was told follows from the board.
  pub worked_can_fill :
      LiveStandUnderSerials → (equation : Equation) (slot : ℕ) (word : Word) → IsWorked told key equation slot word
      → known_in board.desk slot ≡ None → CanFill board.desk equation slot word
  worked_can_fill stand equation slot word worked unknown = record {
    live = subst (λ (e : Equation). Contains (live_equations board.desk.state) e) (told_is_live equation worked.equation_told)
        (is_listed board facts stand key.serial live current.live_is);
    missing = (
      worked.slot_is,
      unknown,
      λ other c differs.
          (let t = worked.words_told other c differs in
          has_value (known_in board.desk other) t.0 (told_in_equation equation worked.equation_told other c t.0 t.2)),
    );
    word_is = worked.word_is ∙ ap (word_xor equation.parity) (sum_at-agree worked.words (known_in board.desk) (others slot (slots equation))
        (λ q c.
        let e = others-element slot (slots equation) q c in
        let t = worked.words_told q e.0 e.1 in
        t.1 ∙ sym (told_in_equation equation worked.equation_told q e.0 t.0 t.2)));
  }

  -- A check that follows from what was told holds of the board.
  pub checked_is_settled :
      (equation : Equation) (zero : Bool) → IsChecked told key equation zero → IsTrue zero
      → IsSettled (known_in board.desk) live.equation
  checked_is_settled equation zero checked comes =
      subst (λ (e : Equation). IsSettled (known_in board.desk) e) (sym (told_is_live equation checked.equation_told)) (
        λ slot c.
            (let t = checked.words_told slot c in
            has_value (known_in board.desk slot) t.0 (told_in_equation equation checked.equation_told slot c t.0 t.2)),
        checked.zero_is comes ∙ sum_at-agree checked.words (known_in board.desk) (slots equation)
            (λ q c.
            let t = checked.words_told q c in
            t.1 ∙ sym (told_in_equation equation checked.equation_told q c t.0 t.2)),
      )

-- As laws, of a board that the admitter's calls make.
pub worked_words_follow : LiveStandUnderSerials → WorkedWordsFollow
worked_words_follow stand playout calls board told key live equation slot word owned grows current worked unknown =
    subst (λ (e : Equation). CanFill board.desk e slot word)
    (sym (told_is_live board owned.facts told grows key live current equation worked.equation_told))
    (worked_can_fill board owned.facts told grows key live current stand equation slot word worked unknown)

pub checked_come_out : CheckedComeOut
checked_come_out playout calls board told key live equation zero owned grows current checked comes =
    checked_is_settled board owned.facts told grows key live current equation zero checked comes
