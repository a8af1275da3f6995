-- How an answer tells what ended a call.
use Rattle.std.proofs.Common.{◌≡◌, ◌⊎◌, inl, inr, ℕ, List, Result, Ok, Err, IfOk, OnErr, refl, sym, ap, subst, ◌∙◌, ⊎_elim}
use Rattle.fg_io.specs.declared.fault.Fault.{Fault}
use Rattle.fg_io.specs.declared.fault.Fault.TheVariants as fault
use Rattle.fg_io.specs.Faults.{Answers, CountsFaults}
use Rattle.fg_trace.specs.declared.step.Finish.{Finish}
use Rattle.fg_trace.specs.declared.step.Finish.TheVariants as finish
use Rattle.fg_trace.specs.Finish.{IsFault as IsFinishFault}
use Rattle.fg_commands.specs.declared.ended.Why.{Why}
use Rattle.fg_commands.specs.declared.ended.Why.TheVariants as why
use Rattle.fg_commands.specs.Ended.{IsFault}
use Rattle.fg_commands.specs.Traces.{EndsTrace}
use Rattle.fg_commands.specs.Endings.{why_of_came, why_of_fault, why_of_finish}

-- The answer tells each of these ends of a call: which of them are a fault or want of memory, a fault of reading, one of writing.
pub record Tells {A : Type 0} (why_of : A → Why) (Fails Reads Writes : A → Type 0) : Type 0 where
  pub is_fault : (a : A) → Fails a → IsFault (why_of a)
  pub fault_of : (a : A) → IsFault (why_of a) → Fails a
  pub read : (a : A) → Reads a → why_of a ≡ why.ReadFault
  pub read_of : (a : A) → why_of a ≡ why.ReadFault → Reads a
  pub write : (a : A) → Writes a → why_of a ≡ why.WriteFault
  pub write_of : (a : A) → why_of a ≡ why.WriteFault → Writes a

-- so what is said of them is said of the answer
pub unless_fault : {A : Type 0} {why_of : A → Why} {Fails Reads Writes : A → Type 0} → Tells why_of Fails Reads Writes
    → (a : A) (P : Type 0) → Fails a ⊎ P → IsFault (why_of a) ⊎ P
unless_fault t a P (inl fails) = inl (t.is_fault a fails)
unless_fault t a P (inr p) = inr p

pub whole : {A : Type 0} {why_of : A → Why} {Fails Reads Writes : A → Type 0} → Tells why_of Fails Reads Writes
    → (a : A) (P : A → Type 0) → Fails a ⊎ P a → IsFault (why_of a) ⊎ ((b : A) × (why_of a ≡ why_of b) × P b)
whole t a P (inl fails) = inl (t.is_fault a fails)
whole t a P (inr p) = inr (a, refl, p)

pub counts : {A : Type 0} {why_of : A → Why} {Fails Reads Writes : A → Type 0} {sources sinks : List (ℕ × ℕ)} → Tells why_of Fails Reads Writes
    → (a : A) → CountsFaults (Reads a) (Writes a) sources sinks
    → CountsFaults (why_of a ≡ why.ReadFault) (why_of a ≡ why.WriteFault) sources sinks
counts t a h = record {
  read = λ e. h.read (t.read_of a e);
  write = λ e. h.write (t.write_of a e);
  no_read = λ no. h.no_read (λ r. no (t.read a r));
  no_write = λ no. h.no_write (λ w. no (t.write a w));
  rise = h.rise;
  sinks_rise = h.sinks_rise;
}

-- An end of a call is one of these three faults, or it is none and is told as none.
abbrev pub IsOneOf : {A : Type 0} → (A → Why) → (A → Type 0) → A → A → A → A → Type 0
IsOneOf why_of Fails read write memory a =
    (a ≡ read) ⊎ (a ≡ write) ⊎ (a ≡ memory) ⊎ ((Fails a → ⊥) × (IsFault (why_of a) → ⊥))

-- Such faults, and how they are told.
pub record Faults {A : Type 0} (why_of : A → Why) (Fails : A → Type 0) (read write memory : A) : Type 0 where
  pub fails : Fails read × Fails write × Fails memory
  pub reads : why_of read ≡ why.ReadFault
  pub writes : why_of write ≡ why.WriteFault
  pub remembers : why_of memory ≡ why.Memory

told_fault : (a b : Why) → a ≡ b → IsFault b → IsFault a
told_fault a b e f = subst (λ (x : Why). IsFault x) (sym e) f

is_fault_by : {A : Type 0} (why_of : A → Why) (Fails : A → Type 0) (read write memory a : A) → Faults why_of Fails read write memory
    → IsOneOf why_of Fails read write memory a → Fails a → IsFault (why_of a)
is_fault_by why_of Fails read write memory a f (inl e) h = told_fault (why_of a) why.ReadFault (ap why_of e ∙ f.reads) tt
is_fault_by why_of Fails read write memory a f (inr (inl e)) h = told_fault (why_of a) why.WriteFault (ap why_of e ∙ f.writes) tt
is_fault_by why_of Fails read write memory a f (inr (inr (inl e))) h = told_fault (why_of a) why.Memory (ap why_of e ∙ f.remembers) tt
is_fault_by why_of Fails read write memory a f (inr (inr (inr neither))) h = absurd (neither.0 h)

fault_of_by : {A : Type 0} (why_of : A → Why) (Fails : A → Type 0) (read write memory a : A) → Faults why_of Fails read write memory
    → IsOneOf why_of Fails read write memory a → IsFault (why_of a) → Fails a
fault_of_by why_of Fails read write memory a f (inl e) h = subst (λ b. Fails b) (sym e) f.fails.0
fault_of_by why_of Fails read write memory a f (inr (inl e)) h = subst (λ b. Fails b) (sym e) f.fails.1
fault_of_by why_of Fails read write memory a f (inr (inr (inl e))) h = subst (λ b. Fails b) (sym e) f.fails.2
fault_of_by why_of Fails read write memory a f (inr (inr (inr neither))) h = absurd (neither.1 h)

read_of_by : {A : Type 0} (why_of : A → Why) (Fails : A → Type 0) (read write memory a : A) → Faults why_of Fails read write memory
    → IsOneOf why_of Fails read write memory a → why_of a ≡ why.ReadFault → a ≡ read
read_of_by why_of Fails read write memory a f (inl e) h = e
read_of_by why_of Fails read write memory a f (inr (inl e)) h =
    let x : why.WriteFault ≡ why.ReadFault = sym (ap why_of e ∙ f.writes) ∙ h in absurd cc
read_of_by why_of Fails read write memory a f (inr (inr (inl e))) h =
    let x : why.Memory ≡ why.ReadFault = sym (ap why_of e ∙ f.remembers) ∙ h in absurd cc
read_of_by why_of Fails read write memory a f (inr (inr (inr neither))) h = absurd (neither.1 (told_fault (why_of a) why.ReadFault h tt))

write_of_by : {A : Type 0} (why_of : A → Why) (Fails : A → Type 0) (read write memory a : A) → Faults why_of Fails read write memory
    → IsOneOf why_of Fails read write memory a → why_of a ≡ why.WriteFault → a ≡ write
write_of_by why_of Fails read write memory a f (inl e) h =
    let x : why.ReadFault ≡ why.WriteFault = sym (ap why_of e ∙ f.reads) ∙ h in absurd cc
write_of_by why_of Fails read write memory a f (inr (inl e)) h = e
write_of_by why_of Fails read write memory a f (inr (inr (inl e))) h =
    let x : why.Memory ≡ why.WriteFault = sym (ap why_of e ∙ f.remembers) ∙ h in absurd cc
write_of_by why_of Fails read write memory a f (inr (inr (inr neither))) h = absurd (neither.1 (told_fault (why_of a) why.WriteFault h tt))

pub tells_by : {A : Type 0} (why_of : A → Why) (Fails : A → Type 0) (read write memory : A) → Faults why_of Fails read write memory
    → ((a : A) → IsOneOf why_of Fails read write memory a) → Tells why_of Fails (λ a. a ≡ read) (λ a. a ≡ write)
tells_by why_of Fails read write memory f one = record {
  is_fault = λ a. is_fault_by why_of Fails read write memory a f (one a);
  fault_of = λ a. fault_of_by why_of Fails read write memory a f (one a);
  read = λ a e. ap why_of e ∙ f.reads;
  read_of = λ a. read_of_by why_of Fails read write memory a f (one a);
  write = λ a e. ap why_of e ∙ f.writes;
  write_of = λ a. write_of_by why_of Fails read write memory a f (one a);
}

-- an end that is told as that of a trace is one that reads all
pub ends_by : {A : Type 0} (why_of : A → Why) (Leaves : A → Type 0)
    → ((a : A) → Leaves a ⊎ ((why_of a ≡ why.Done → ⊥) × ((n : ℕ) → why_of a ≡ why.Cut n → ⊥)))
    → (a : A) → EndsTrace (why_of a) → Leaves a
ends_by why_of Leaves all a h = ⊎_elim
    (λ leaves. leaves)
    (λ no. absurd (elim h [ inl done ↦ no.0 done | inr cut ↦ no.1 cut.0 cut.1 ]))
    (all a)

-- A command that finishes as the reading of a trace does.
finishes : (a : Finish) → IsOneOf why_of_finish IsFinishFault finish.ReadFault finish.WriteFault finish.Memory a
finishes finish.ReadFault = inl refl
finishes finish.WriteFault = inr (inl refl)
finishes finish.Memory = inr (inr (inl refl))
finishes finish.Done = inr (inr (inr (λ h. h, λ h. h)))
finishes (finish.NotTrace n) = inr (inr (inr (λ h. h, λ h. h)))
finishes (finish.Cut n) = inr (inr (inr (λ h. h, λ h. h)))
finishes (finish.TooLong n) = inr (inr (inr (λ h. h, λ h. h)))

pub finish_tells : Tells why_of_finish IsFinishFault (λ a. a ≡ finish.ReadFault) (λ a. a ≡ finish.WriteFault)
finish_tells = tells_by why_of_finish IsFinishFault finish.ReadFault finish.WriteFault finish.Memory
    (record { fails = (tt, tt, tt); reads = refl; writes = refl; remembers = refl }) finishes

-- A command that a fault ends, or that ends in another way, which is told as no fault.
pub is_fault : (f : Fault) → IsFault (why_of_fault f)
is_fault fault.Read = tt
is_fault fault.Write = tt
is_fault fault.Memory = tt

-- a fault ended it
abbrev pub Failed : {E : Type 0} → Result E Fault → Type 0
Failed (Ok e) = ⊥
Failed (Err f) = Unit {0}

came_fault : {E : Type 0} (why_of : E → Why) (came : Result E Fault) → Failed came → IsFault (why_of_came why_of came)
came_fault why_of (Ok e) h = absurd h
came_fault why_of (Err f) h = is_fault f

fault_came : {E : Type 0} (why_of : E → Why) → ((e : E) → IsFault (why_of e) → ⊥) → (came : Result E Fault)
    → IsFault (why_of_came why_of came) → Failed came
fault_came why_of none (Ok e) h = absurd (none e h)
fault_came why_of none (Err f) h = tt

came_read : {E : Type 0} (why_of : E → Why) (came : Result E Fault) → Answers came fault.Read → why_of_came why_of came ≡ why.ReadFault
came_read why_of (Ok e) h = absurd h
came_read why_of (Err f) h = ap why_of_fault h

came_write : {E : Type 0} (why_of : E → Why) (came : Result E Fault) → Answers came fault.Write → why_of_came why_of came ≡ why.WriteFault
came_write why_of (Ok e) h = absurd h
came_write why_of (Err f) h = ap why_of_fault h

read_fault : (f : Fault) → why_of_fault f ≡ why.ReadFault → f ≡ fault.Read
read_fault fault.Read e = refl
read_fault fault.Write e = absurd (let a = e in cc)
read_fault fault.Memory e = absurd (let a = e in cc)

write_fault : (f : Fault) → why_of_fault f ≡ why.WriteFault → f ≡ fault.Write
write_fault fault.Read e = absurd (let a = e in cc)
write_fault fault.Write e = refl
write_fault fault.Memory e = absurd (let a = e in cc)

read_came : {E : Type 0} (why_of : E → Why) → ((e : E) → IsFault (why_of e) → ⊥) → (came : Result E Fault)
    → why_of_came why_of came ≡ why.ReadFault → Answers came fault.Read
read_came why_of none (Ok e) h = absurd (none e (subst (λ (a : Why). IsFault a) (sym h) tt))
read_came why_of none (Err f) h = read_fault f h

write_came : {E : Type 0} (why_of : E → Why) → ((e : E) → IsFault (why_of e) → ⊥) → (came : Result E Fault)
    → why_of_came why_of came ≡ why.WriteFault → Answers came fault.Write
write_came why_of none (Ok e) h = absurd (none e (subst (λ (a : Why). IsFault a) (sym h) tt))
write_came why_of none (Err f) h = write_fault f h

pub came_tells : {E : Type 0} (why_of : E → Why) → ((e : E) → IsFault (why_of e) → ⊥)
    → Tells (why_of_came why_of) (λ (came : Result E Fault). Failed came) (λ (came : Result E Fault). Answers came fault.Read) (λ (came : Result E Fault). Answers came fault.Write)
came_tells why_of none = record {
  is_fault = came_fault why_of;
  fault_of = fault_came why_of none;
  read = came_read why_of;
  read_of = read_came why_of none;
  write = came_write why_of;
  write_of = write_came why_of none;
}

-- what is said where no fault ends it, and where one does
pub came_whole : {E : Type 0} (why_of : E → Why) (came : Result E Fault) (P : E → Type 0) → IfOk came P
    → IsFault (why_of_came why_of came) ⊎ ((e : E) × (why_of_came why_of came ≡ why_of e) × P e)
came_whole why_of (Ok e) P h = inr (e, refl, h)
came_whole why_of (Err f) P h = inl (is_fault f)

pub came_part : {E : Type 0} (why_of : E → Why) → ((e : E) → IsFault (why_of e) → ⊥) → (came : Result E Fault) (P : Type 0) → OnErr came P
    → IsFault (why_of_came why_of came) → P
came_part why_of none (Ok e) P h fails = absurd (none e fails)
came_part why_of none (Err f) P h fails = h

-- an ending that leaves nothing is told as one, and a fault isn't
pub came_all_read : {E : Type 0} (why_of : E → Why) (Ends : Why → Type 0) (Leaves : E → Type 0) (P : Type 0) (came : Result E Fault)
    → ((e : E) → Ends (why_of e) → Leaves e) → ((f : Fault) → Ends (why_of_fault f) → ⊥)
    → IfOk came (λ e. Leaves e → P) → Ends (why_of_came why_of came) → P
came_all_read why_of Ends Leaves P (Ok e) ends none h told = h (ends e told)
came_all_read why_of Ends Leaves P (Err f) ends none h told = absurd (none f told)

-- the answer that is due is told, where one of them is
pub came_exactly : {E : Type 0} (why_of : E → Why) (came : Result E Fault) (due : Why) (Of : E → Type 0) → IfOk came Of
    → ((e : E) → Of e → why_of e ≡ due) → IsFault (why_of_came why_of came) ⊎ (why_of_came why_of came ≡ due)
came_exactly why_of (Ok e) due Of h same = inr (same e h)
came_exactly why_of (Err f) due Of h same = inl (is_fault f)
