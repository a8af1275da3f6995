-- How the admitter's calls, and what passes are told, are written as lists of numbers, in which form a turn keeps them.
-- Reading is total: whatever stands for nothing is read as something. This project's own.
use Rattle.std.specs.Prelude.{◌≡◌, ℕ, zero, suc, List, [], ◌∷◌, map, Some, None}
use Rattle.fg_words.specs.declared.Word.{Word}
use Rattle.fg_words.specs.Word.{zero_word}
use Rattle.fg_shape.specs.Playout.{Playout}
use Rattle.fg_playout.specs.declared.reply.Reply.{Reply}
use Rattle.fg_playout.specs.declared.reply.Reply.TheVariants.{Admitted, Duplicate, Conflict, Late, NotStarted, BeforeStart, Ahead, Crowded, Foreign}
use Rattle.fg_playout.specs.declared.reply.Outcome.{Outcome}
use Rattle.fg_playout.specs.declared.reply.Outcome.TheVariants.{Repaired, Inconsistent}
use Rattle.fg_desk.specs.declared.desk.Played.{Played}
use Rattle.fg_playout.specs.Admission.{Parity}
use Rattle.fg_core.specs.Board.{BoardState}
use Rattle.fg_core.specs.Views.{Told, saw, word_at, equation_is, Grows}
use Rattle.fg_core.specs.Core.{Call, media, parity, play, flush, held, skip, IsOwned}

-- A list of numbers.
abbrev pub Entry : Type 0
Entry = List ℕ

abbrev pub word_code : Word → Entry
word_code word = word.pt ∷ word.ts ∷ word.len ∷ word.bytes

abbrev pub word_from : Entry → Word
word_from (pt ∷ ts ∷ len ∷ bytes) = record { pt = pt; ts = ts; len = len; bytes = bytes }
word_from _ = zero_word

-- What is told: the three numbers, a word, an equation.

abbrev pub told_code : Told → Entry
told_code (saw mark epoch admitted) = 0 ∷ mark ∷ epoch ∷ admitted ∷ []
told_code (word_at epoch slot word) = 1 ∷ epoch ∷ slot ∷ word_code word
told_code (equation_is serial equation) =
    2 ∷ serial ∷ equation.base ∷ equation.offset ∷ equation.count ∷ word_code equation.parity

abbrev pub told_from : Entry → Told
told_from (zero ∷ mark ∷ epoch ∷ admitted ∷ rest) = saw mark epoch admitted
told_from (suc zero ∷ epoch ∷ slot ∷ word) = word_at epoch slot (word_from word)
told_from (suc (suc kind) ∷ serial ∷ base ∷ offset ∷ count ∷ word) =
    equation_is serial (record { base = base; offset = offset; count = count; parity = word_from word })
told_from _ = saw 0 0 0

-- The numbers of replies and outcomes, in the order in which they are declared.

abbrev pub reply_code : Reply → ℕ
reply_code Admitted = 0
reply_code Duplicate = 1
reply_code Conflict = 2
reply_code Late = 3
reply_code NotStarted = 4
reply_code BeforeStart = 5
reply_code Ahead = 6
reply_code Crowded = 7
reply_code Foreign = 8

abbrev pub reply_from : ℕ → Reply
reply_from zero = Admitted
reply_from (suc zero) = Duplicate
reply_from (suc (suc zero)) = Conflict
reply_from (suc (suc (suc zero))) = Late
reply_from (suc (suc (suc (suc zero)))) = NotStarted
reply_from (suc (suc (suc (suc (suc zero))))) = BeforeStart
reply_from (suc (suc (suc (suc (suc (suc zero)))))) = Ahead
reply_from (suc (suc (suc (suc (suc (suc (suc zero))))))) = Crowded
reply_from _ = Foreign

abbrev pub outcome_code : Outcome → ℕ
outcome_code Repaired = 0
outcome_code Inconsistent = 1

abbrev pub outcome_from : ℕ → Outcome
outcome_from zero = Repaired
outcome_from _ = Inconsistent

-- Calls: a media datagram, a parity datagram, a play, a flush step, a held step, windows that are passed at once.

abbrev pub played_code : Played → Entry
played_code played = played.first ∷ played.count ∷ outcome_code played.verdict ∷ []

abbrev pub call_code : Call → Entry
call_code (media seq ssrc word reply) = 0 ∷ seq ∷ ssrc ∷ reply_code reply ∷ word_code word
call_code (parity given reply None) =
    1 ∷ given.base ∷ given.offset ∷ given.count ∷ reply_code reply ∷ word_code given.word
call_code (parity given reply (Some key)) =
    2 ∷ key.place ∷ key.serial ∷ key.epoch ∷ given.base ∷ given.offset ∷ given.count ∷ reply_code reply
    ∷ word_code given.word
call_code (play played) = 3 ∷ played_code played
call_code (flush None) = 4 ∷ []
call_code (flush (Some played)) = 5 ∷ played_code played
call_code (held time None) = 6 ∷ time ∷ []
call_code (held time (Some played)) = 7 ∷ time ∷ played_code played
call_code (skip None count) = 8 ∷ count ∷ []
call_code (skip (Some time) count) = 9 ∷ time ∷ count ∷ []

abbrev pub parity_from : ℕ → ℕ → ℕ → Entry → Parity
parity_from base offset count word =
    record { base = base; offset = offset; count = count; word = word_from word }

abbrev pub played_from : ℕ → ℕ → ℕ → Played
played_from first count outcome = record { first = first; count = count; verdict = outcome_from outcome }

abbrev pub call_from : Entry → Call
call_from (zero ∷ seq ∷ ssrc ∷ reply ∷ word) = media seq ssrc (word_from word) (reply_from reply)
call_from (suc zero ∷ base ∷ offset ∷ count ∷ reply ∷ word) =
    parity (parity_from base offset count word) (reply_from reply) None
call_from (suc (suc zero) ∷ place ∷ serial ∷ epoch ∷ base ∷ offset ∷ count ∷ reply ∷ word) =
    parity (parity_from base offset count word) (reply_from reply)
    (Some (record { place = place; serial = serial; epoch = epoch }))
call_from (suc (suc (suc zero)) ∷ first ∷ count ∷ outcome ∷ rest) = play (played_from first count outcome)
call_from (suc (suc (suc (suc (suc zero)))) ∷ first ∷ count ∷ outcome ∷ rest) =
    flush (Some (played_from first count outcome))
call_from (suc (suc (suc (suc (suc (suc zero))))) ∷ time ∷ rest) = held time None
call_from (suc (suc (suc (suc (suc (suc (suc zero)))))) ∷ time ∷ first ∷ count ∷ outcome ∷ rest) =
    held time (Some (played_from first count outcome))
call_from (suc (suc (suc (suc (suc (suc (suc (suc zero))))))) ∷ count ∷ rest) = skip None count
call_from (suc (suc (suc (suc (suc (suc (suc (suc (suc kind)))))))) ∷ time ∷ count ∷ rest) = skip (Some time) count
call_from _ = flush None

-- The list with which the admitter's calls begin: the window, the depth and the hold.
abbrev pub opening_code : Playout → Entry
opening_code playout = playout.window ∷ playout.depth ∷ playout.hold ∷ []

-- What entries, the first of them the opening, make of a board.
abbrev pub IsOwnedBy : List Entry → BoardState → Type 0
IsOwnedBy ((window ∷ depth ∷ hold ∷ rest) ∷ entries) board =
    IsOwned (record { window = window; depth = depth; hold = hold }) (map call_from entries) board
IsOwnedBy _ board = ⊥

-- A board has grown from what these lists tell.
abbrev pub GrowsFrom : List Entry → BoardState → Type 0
GrowsFrom told board = Grows (map told_from told) board

-- What is written is read back.

abbrev pub CallsAreReadBack : Type 0
CallsAreReadBack = (call : Call) → call_from (call_code call) ≡ call

abbrev pub ToldIsReadBack : Type 0
ToldIsReadBack = (told : Told) → told_from (told_code told) ≡ told
