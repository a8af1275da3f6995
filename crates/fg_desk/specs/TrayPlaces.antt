-- What a place of a tray shows, and what a tray shows of a buffer. No public contract cites it.
use Rattle.std.specs.Prelude.{ℕ, Bool, List, map, Option, Some, None, refl, if◌then◌else◌}
use Rattle.std.specs.List.{range_with_len}
use Rattle.std.specs.Option.{option_or}
use Rattle.std.specs.Coded.{Coded, code_by, coded×, coded_ℕ, coded_bool, coded_list, coded_option}
use Rattle.fg_words.specs.declared.Word.{Word}
use Rattle.fg_buffer.specs.PlayoutBuffer.{BufferState, buffer_known}
use Rattle.fg_buffer.specs.BufferEntries.{word_code}
use Rattle.fg_desk.specs.declared.tray.Place.{Place}
use Rattle.fg_playout.specs.Shown.{Shown, Holding, kept_shown}

abbrev pub shown_of : Place → Shown
shown_of place = record {
  word = option_or place.share (if place.copied then Some place.word else None);
  repaired = place.repaired;
}

-- What a buffer keeps at `count` positions from a first one on.
abbrev pub buffer_kept_from : BufferState → ℕ → ℕ → List Shown
buffer_kept_from buffer first count = map (kept_shown (buffer_known buffer) buffer.repaired) (range_with_len first count)

-- How what is shown and a tray are told apart.
abbrev pub shown_code : Coded Shown
shown_code =
    code_by (Option Word × Bool) (coded× (coded_option word_code) coded_bool)
    (λ s. (s.word, s.repaired)) (λ p. record { word = p.0; repaired = p.1 }) (λ _. refl)

abbrev pub holding_code : Coded Holding
holding_code =
    code_by (ℕ × List Shown) (coded× coded_ℕ (coded_list shown_code))
    (λ h. (h.window, h.shown)) (λ p. record { window = p.0; shown = p.1 }) (λ _. refl)
