-- What is kept, shown position by position.
use Rattle.std.proofs.Common.{◌≡◌, ◌+◌, ◌++◌, ◌∷◌, [], ℕ, Bool, List, Option, ap, sym, ◌∙◌, refl}
use Rattle.std.proofs.lemmas.List.FromFn.{map-range_with_len_more}
use Rattle.std.specs.FinSet.{contains}
use Rattle.fg_words.specs.declared.Word.{Word}
use Rattle.fg_playout.specs.Shown.{Holding, kept_shown, Shown}
use Rattle.fg_buffer.specs.PlayoutBuffer.{BufferState, buffer_known}
use Rattle.fg_desk.specs.TrayPlaces.{buffer_kept_from}

pub one_more_shown :
    (buffer : BufferState) (first i window position : ℕ) (tray : Holding) (word : Option Word) (alone : Bool)
    → tray ≡ record { window = window; shown = buffer_kept_from buffer first i } → position ≡ first + i
    → word ≡ buffer_known buffer position → alone ≡ contains buffer.repaired position
    → record tray { shown = tray.shown ++ record { word = word; repaired = alone } ∷ [] }
    ≡ record { window = window; shown = buffer_kept_from buffer first (i + 1) }
one_more_shown buffer first i window position tray word alone before at word_is alone_is =
    let f = kept_shown (buffer_known buffer) buffer.repaired in
    let shown : record { word = word; repaired = alone } ≡ f position = λ k. record { word = word_is k; repaired = alone_is k } in
    ap (λ (h : Holding). record { window = h.window; shown = h.shown ++ record { word = word; repaired = alone } ∷ [] }) before
    ∙ ap (λ (s : Shown). record { window = window; shown = buffer_kept_from buffer first i ++ s ∷ [] }) (shown ∙ ap f at)
    ∙ ap (λ (xs : List Shown). record { window = window; shown = xs }) (sym (map-range_with_len_more f first i (first + i) refl))
