-- How far the writing of a capture has come. No public contract cites what stands here.
use Rattle.std.specs.Prelude.{◌≡◌, ◌+◌, ◌≤◌, ◌^◌, ℕ, Option, None, Some, IfSome, List, [], length}
use Rattle.std.specs.Io.KnownBytes.{IsAtEnd}
use Rattle.std.specs.List.{AllByRecursion}
use Rattle.fg_io.specs.Texts.{ReadTexts}
use Rattle.fg_io.specs.Sent.{Sent}
use Rattle.fg_trace.specs.Reader.{ReaderState, StandsAfter}
use Rattle.fg_trace.specs.Trace.{Record}
use Rattle.fg_pcap.specs.declared.writer.Spelling.{Spelling}
use Rattle.fg_pcap.specs.declared.writer.SpellingEnding.{SpellingEnding}
use Rattle.fg_pcap.specs.ReadFor.{IsReadFor}
use Rattle.fg_pcap.specs.Spelling.{FitsCapture, capture_of}
use Rattle.fg_pcap.specs.ToCapture.{IsSpelled, LeavesNothing, ReachesFor, Spells, SpellsPart, text_of}

-- The reader stands behind the magic, and nothing is spelled.
pub record IsNew (spelling : Spelling) (reader : ReaderState) (first now : Option (List ℕ)) : Type 0 where
  pub stands : StandsAfter reader first now []
  pub untold : reader.kept ≡ None
  pub limit : reader.max ≤ 2 ^ 40
  pub bounded : reader.place + length reader.held ≤ reader.max + 1
  pub held : spelling.held ≡ []
  pub number : spelling.number ≡ 0

-- The reader stands after records that fit a capture, and whose capture is spelled: the sink has gained its front since
-- then, and the rest is held. It has told no ending.
pub record IsUnderway
    (spelling : Spelling) (reader : ReaderState) (first now before after : Option (List ℕ)) : Type 0 where
  pub records : List Record
  pub stands : StandsAfter reader first now records
  pub untold : reader.kept ≡ None
  pub limit : reader.max ≤ 2 ^ 40
  pub fit : AllByRecursion FitsCapture records
  pub number : spelling.number ≡ length records
  pub sent : Sent before (capture_of records) spelling.held after

-- The input, which had `first`, was read as far as an ending needs, once one is told.
abbrev pub IsReadTo : ℕ → Option SpellingEnding → Option (List ℕ) → Option (List ℕ) → Type 0
IsReadTo max ending first now = IfSome first (λ bytes. IsReadFor (ReachesFor max) max ending bytes now)

-- All that is written with this ending is spelled, and the input was read for it.
pub record HasSpelled
    (spelling : Spelling) (reader : ReaderState) (ending : SpellingEnding) (first now before after : Option (List ℕ)) : Type 0 where
  pub records : List Record
  pub of_input : IfSome first (λ bytes. IsSpelled ending bytes reader.max records)
  pub sent : Sent before (text_of ending records) spelling.held after
  pub read : IsReadTo reader.max (Some ending) first now
  pub at_end : LeavesNothing ending → IsAtEnd now

-- It is written.
pub record IsWritten (max : ℕ) (ending : SpellingEnding) (first now before after : Option (List ℕ)) : Type 0 where
  pub spells : Spells max ending first before after
  pub read : IsReadTo max (Some ending) first now
  pub at_end : LeavesNothing ending → IsAtEnd now

-- What a fault leaves: a prefix is written, and the input was read no further than a byte past the limit.
abbrev pub Breaks : ℕ → ReadTexts
Breaks max first now before after = SpellsPart max first before after × IsReadTo max None first now
