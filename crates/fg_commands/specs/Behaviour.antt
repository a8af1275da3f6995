-- What a call of the program owes for what is asked of it: this project's own.
use Rattle.std.specs.Prelude.{ℕ, List, Option}
use Rattle.fg_io.specs.Outlet.{Lanes}
use Rattle.fg_commands.specs.declared.ended.Why.{Why}

-- A request's behaviour. `input` is what the source has left before the call, where that is told, and `bytes` are the bytes that
-- are told; `lanes` and `written` are what lanes and sink have before the call, `lanes'` and `written'` what they have after it.
pub record Behaviour : Type 1 where
  -- The answer that the request has over these bytes, where nothing fails and memory is there.
  pub is_answer : List ℕ → Why → Type 0
  -- With this answer the lanes and the sink have gained what is defined for the request over the input.
  pub gains : Why → Option (List ℕ) → Option Lanes → Option Lanes → Option (List ℕ) → Option (List ℕ) → Type 0
  -- What a fault, or want of memory, leaves of what they would have gained.
  pub part : {K : Type 0} → Option (List ℕ) → Option Lanes → Option Lanes → (K → Option (List ℕ)) → K → K → Type 0
  -- Where a fault, or want of memory, stops what the request does to the lanes.
  pub stops : Why → Option (List ℕ) → Option Lanes → Option Lanes → Type 0
  -- And what a failed read leaves of them, where so much is left of the input.
  pub at_read : Option (List ℕ) → Option (List ℕ) → Option Lanes → Option Lanes → Type 0
  -- What comes back of what is repaired or written.
  pub comes_back : Why → Option (List ℕ) → Option Lanes → Option Lanes → Option (List ℕ) → Option (List ℕ) → Type 0
  -- How far the input has been read with this answer, of which this is left.
  pub reads : Why → List ℕ → Option (List ℕ) → Type 0
  -- After this answer nothing of the input is left.
  pub reads_all : Why → Type 0
  -- The answers with which a fault of reading may have been counted.
  pub may_have_failed_to_read : Why → Type 0
  -- The bytes aren't what the request reads.
  pub is_no_input : List ℕ → Type 0
  -- What is left alone, whatever the answer: the input, the sink, the lanes.
  pub reads_nothing : Type 0
  pub writes_nothing : Type 0
  pub makes_no_lane : Type 0
  -- The request writes only once all of its input was read: where reading fails, nothing was written.
  pub writes_last : Type 0
