-- A tray that is filled after a play in place shows that play.
use Rattle.std.proofs.Common.{◌≡◌, ◌+◌, ◌≤◌, ℕ, List, length, sym, ap, subst, ◌∙◌, arith}
use Rattle.std.proofs.lemmas.List.FromFn.{length-map-range_with_len}
use Rattle.fg_playout.specs.declared.reply.Outcome.{Outcome}
use Rattle.fg_playout.specs.State.{State, known}
use Rattle.fg_playout.specs.Play.{Play, Shown, IsPlay}
use Rattle.fg_desk.specs.declared.desk.Desk.TheInside.{Inside}
use Rattle.fg_desk.specs.Contents.{Contents, Holding, kept_shown, kept_from}
use Rattle.fg_desk.specs.Inside.{contents_of}
use Rattle.fg_desk.specs.Parts.{parts_of, IsDesk}
use Rattle.fg_desk.specs.TrayPlaces.{buffer_kept_from}
use Rattle.fg_desk.proofs.DeskWords.{shown_is_kept}

module _
    (a : Inside) (desk : IsDesk a) (new : Contents) (view : contents_of (parts_of a) ≡ new) (count : ℕ) (old : State)
    (first played : ℕ) (outcome : Outcome)
    (is : IsPlay count old (record { first = first; shown = kept_from new first played; outcome = outcome }) new.state)
    (tray : Holding) (window : ℕ) (shows : tray ≡ record { window = window; shown = buffer_kept_from a.buffer first played }) where
  played_is : length (kept_from new first played) ≡ played
  played_is = length-map-range_with_len (kept_shown (known new.state) new.repaired) first played

  shown_after : tray.shown ≡ kept_from new first played
  shown_after =
      let mark = ap (λ (s : Contents). s.state.mark) view in
      let moved = is.mark in
      let begins = is.first in
      let number = is.length_is in
      let all = played_is in
      let within : first + played ≤ a.buffer.mark = omega (arith, mark, moved, begins, number, all) in
      ap (λ (h : Holding). h.shown) shows
      ∙ shown_is_kept a.buffer first played (λ q some. (desk.sound.beside q some).0) within
      ∙ ap (λ (s : Contents). kept_from s first played) view

  pub count_shown : played ≡ length tray.shown
  count_shown = sym (ap length shown_after ∙ played_is)

  -- What is true of the play as the desk keeps it is true of it as the tray shows it.
  pub shown_play :
      (Is : Play → Type 0) → Is (record { first = first; shown = kept_from new first played; outcome = outcome })
      → Is (record { first = first; shown = tray.shown; outcome = outcome })
  shown_play Is kept = subst (λ (xs : List Shown). Is (record { first = first; shown = xs; outcome = outcome })) (sym shown_after) kept
