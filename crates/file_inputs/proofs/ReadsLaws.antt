-- What readers promise, one after the other, is what they promise together.
use Rattle.std.proofs.Common.{◌≡◌, ℕ, ◌≤◌, List, [], Option, Some, None, IfSome, IsErrOf, Result, Ok, Err}
use Rattle.std.proofs.Common.{refl, sym, ap, ◌∙◌, append-nil, arith}
use Rattle.ebc_outside.specs.Counts.{Rose}
use Rattle.ebc_outside.specs.Files.{Files}
use Rattle.cli_base.specs.declared.outcome.Outcome.{Outcome}
use Rattle.cli_base.specs.declared.outcome.Outcome.TheVariants as outcomes
use Rattle.cli_base.specs.declared.reply.End.{End}
use Rattle.cli_base.specs.declared.reply.End.TheVariants as ends
use Rattle.cli_base.specs.declared.reply.Reply.{Reply}
use Rattle.cli_base.specs.Inputs.{Means}
use Rattle.cli_base.specs.Outcomes.{IsBadInput, IsCommandAnswer}
use Rattle.cli_base.specs.Outputs.{written_name}
use Rattle.cli_base.specs.Readings.{CommandAnswer, FileReading, Follows, ◌>>=◌, done, IfStop, MissingHasCause, told}
use Rattle.file_inputs.specs.Reads.{Reads}
use Rattle.file_inputs.proofs.ReadingsLemmas.{first-ends, made-follows, next-follows}

-- a count of failed reads that rose later rose
rose-before : (before mid now : ℕ) → before ≤ mid → Rose mid now → Rose before now
rose-before before mid now more rose = omega (arith, more, rose)

cause-before : (old mid : Option Files) (before between now : ℕ) (reply : Reply) → mid ≡ old → before ≤ between
    → CommandAnswer mid between now reply → CommandAnswer old before now reply
cause-before old mid before between now reply same more answer = record {
  command = answer.command;
  output = answer.output;
  missing = missing-before old mid before between now reply.outcome same more answer.missing;
} where
  missing-before : (old mid : Option Files) (before between now : ℕ) (o : Outcome) → mid ≡ old → before ≤ between
      → MissingHasCause mid between now o → MissingHasCause old before now o
  missing-before (Some files) mid before between now o same more cause = tt
  missing-before None mid before between now (outcomes.Missing word) same more cause =
      rose-before before between now more (rw same at cause)
  missing-before None mid before between now outcomes.Done same more cause = tt
  missing-before None mid before between now (outcomes.Refused place rule) same more cause = tt
  missing-before None mid before between now (outcomes.Differ step) same more cause = tt
  missing-before None mid before between now outcomes.BadWords same more cause = tt
  missing-before None mid before between now (outcomes.BadInput word fault) same more cause = tt
  missing-before None mid before between now outcomes.ReadFault same more cause = tt
  missing-before None mid before between now outcomes.WriteFault same more cause = tt
  missing-before None mid before between now outcomes.NoMemory same more cause = tt
  missing-before None mid before between now (outcomes.TooLarge word) same more cause = tt

stop-before : {A : Type 0} (old mid : Option Files) (before between now : ℕ) (result : Result A End) → mid ≡ old → before ≤ between
    → IfStop result (CommandAnswer mid between now) → IfStop result (CommandAnswer old before now)
stop-before old mid before between now (Ok x) same more stop = tt
stop-before old mid before between now (Err (ends.Stop reply)) same more stop =
    cause-before old mid before between now reply same more stop
stop-before old mid before between now (Err ends.ReadFault) same more stop = tt
stop-before old mid before between now (Err ends.NoMemory) same more stop = tt

uncounted-both : (R : Type 0) (old mid : Option Files) (before between now : ℕ) → mid ≡ old → IfSome old (λ _. between ≡ before)
    → IfSome mid (λ _. R → now ≡ between) → IfSome old (λ _. R → now ≡ before)
uncounted-both R None mid before between now same one two = tt
uncounted-both R (Some files) mid before between now same one two = λ r. (rw same at two) r ∙ one

went-on : {A : Type 0} (old : Option Files) (before now : ℕ) (x : A)
    → IfSome old (λ _. ¬ IsErrOf {T = A} (Ok x) ends.ReadFault → now ≡ before) → IfSome old (λ _. now ≡ before)
went-on None before now x one = tt
went-on (Some files) before now x one = one (λ e. cc)

uncounted-made : (R : Type 0) (old : Option Files) (before now : ℕ) → IfSome old (λ _. now ≡ before) → IfSome old (λ _. R → now ≡ before)
uncounted-made R None before now one = tt
uncounted-made R (Some files) before now one = λ r. one

-- What readings that went through left: no file has changed, nor the count of failed writes, and no failed read was counted where the
-- files are told.
pub record Went {S : Type 0} (contents : S → Option Files) (reads writes : S → ℕ) (before now : S) : Type 0 where
  pub same_files : contents now ≡ contents before
  pub uncounted : IfSome (contents before) (λ _. reads now ≡ reads before)
  pub count : reads before ≤ reads now
  pub same_writes : writes now ≡ writes before

-- before any
pub went-nowhere : {S : Type 0} (contents : S → Option Files) (reads writes : S → ℕ) (now : S) → Went contents reads writes now now
went-nowhere contents reads writes now = record {
  same_files = refl;
  uncounted = same-count (contents now) (reads now);
  count = omega arith;
  same_writes = refl;
} where
  same-count : (old : Option Files) (now : ℕ) → IfSome old (λ _. now ≡ now)
  same-count None now = tt
  same-count (Some files) now = refl

-- and then one that went through
pub went-more : {S A : Type 0} (contents : S → Option Files) (asked : S → List (List ℕ)) (reads writes : S → ℕ) (before mid now : S)
    (x : A) (first : Files → FileReading A) → Went contents reads writes before mid
    → Reads contents asked reads writes mid now (Ok x) first → Went contents reads writes before now
went-more contents asked reads writes before mid now x first went one = record {
  same_files = one.same_files ∙ went.same_files;
  uncounted = both (contents before) (contents mid) (reads before) (reads mid) (reads now) went.same_files went.uncounted
      (went-on (contents mid) (reads mid) (reads now) x one.uncounted);
  count = let a = went.count in let b = one.count in omega (arith, a, b);
  same_writes = one.same_writes ∙ went.same_writes;
} where
  both : (old mid : Option Files) (before between now : ℕ) → mid ≡ old → IfSome old (λ _. between ≡ before)
      → IfSome mid (λ _. now ≡ between) → IfSome old (λ _. now ≡ before)
  both None mid before between now same one two = tt
  both (Some files) mid before between now same one two = (rw same at two) ∙ one

-- readings that went through, whatever comes of all of them, where that is no stop and no failed read
reads-kept : {S A : Type 0} (contents : S → Option Files) (asked : S → List (List ℕ)) (reads writes : S → ℕ) (before now : S)
    (result : Result A End) (whole : Files → FileReading A) → IfStop result (CommandAnswer (contents before) (reads before) (reads now))
    → (IsErrOf result ends.ReadFault → ⊥) → Went contents reads writes before now
    → IfSome (contents before) (λ files. Follows (asked before) (asked now) result (whole files))
    → Reads contents asked reads writes before now result whole
reads-kept contents asked reads writes before now result whole stop no-fault went follows = record {
  follows = follows;
  stop = stop;
  fault = λ e. absurd (no-fault e);
  uncounted = uncounted-made _ (contents before) (reads before) (reads now) went.uncounted;
  count = went.count;
  same_files = went.same_files;
  same_writes = went.same_writes;
}

-- so what is made of what they gave
pub reads-went : {S A : Type 0} (contents : S → Option Files) (asked : S → List (List ℕ)) (reads writes : S → ℕ) (before now : S) (x : A)
    (whole : Files → FileReading A) → Went contents reads writes before now
    → IfSome (contents before) (λ files. Follows (asked before) (asked now) (Ok x) (whole files))
    → Reads contents asked reads writes before now (Ok x) whole
reads-went contents asked reads writes before now x whole =
    reads-kept contents asked reads writes before now (Ok x) whole tt (λ e. cc)

-- and so where what they gave can't be kept for want of memory
pub reads-lost : {S A : Type 0} (contents : S → Option Files) (asked : S → List (List ℕ)) (reads writes : S → ℕ) (before now : S)
    (whole : Files → FileReading A) → Went contents reads writes before now
    → IfSome (contents before) (λ files. Follows {A = A} (asked before) (asked now) (Err ends.NoMemory) (whole files))
    → Reads {A = A} contents asked reads writes before now (Err ends.NoMemory) whole
reads-lost contents asked reads writes before now whole =
    reads-kept contents asked reads writes before now (Err ends.NoMemory) whole tt (λ e. cc)

-- readings that went through, and then one more, whatever comes of all of them
pub reads-after : {S A : Type 0} (contents : S → Option Files) (asked : S → List (List ℕ)) (reads writes : S → ℕ) (before mid now : S)
    (result : Result A End) (rest whole : Files → FileReading A) → Went contents reads writes before mid
    → Reads contents asked reads writes mid now result rest
    → IfSome (contents before) (λ files. Follows (asked before) (asked now) result (whole files))
    → Reads contents asked reads writes before now result whole
reads-after contents asked reads writes before mid now result rest whole went two follows = record {
  follows = follows;
  stop = stop-before (contents before) (contents mid) (reads before) (reads mid) (reads now) result went.same_files went.count two.stop;
  fault = λ e. rose-before (reads before) (reads mid) (reads now) went.count (two.fault e);
  uncounted = uncounted-both _ (contents before) (contents mid) (reads before) (reads mid) (reads now) went.same_files went.uncounted
      two.uncounted;
  count = let a = went.count in let b = two.count in omega (arith, a, b);
  same_files = two.same_files ∙ went.same_files;
  same_writes = two.same_writes ∙ went.same_writes;
}

-- a reading that went through, and then one more
pub reads-then : {S A B : Type 0} (contents : S → Option Files) (asked : S → List (List ℕ)) (reads writes : S → ℕ)
    (before mid now : S) (x : A) (result : Result B End) (first : Files → FileReading A) (f : Files → A → FileReading B)
    → Reads contents asked reads writes before mid (Ok x) first
    → Reads contents asked reads writes mid now result (λ files. f files x)
    → Reads contents asked reads writes before now result (λ files. first files >>= f files)
reads-then contents asked reads writes before mid now x result first f one two =
    reads-after contents asked reads writes before mid now result (λ files. f files x) (λ files. first files >>= f files)
    (went-more contents asked reads writes before before mid x first (went-nowhere contents reads writes before) one) two
    (next-follows (contents before) (contents mid) (asked before) (asked mid) (asked now) first f x result one.same_files one.follows
    two.follows)

-- a reading that ends, before all that comes after it
pub reads-ended : {S A B : Type 0} (contents : S → Option Files) (asked : S → List (List ℕ)) (reads writes : S → ℕ)
    (before now : S) (end : End) (first : Files → FileReading A) (f : Files → A → FileReading B)
    → Reads {A = A} contents asked reads writes before now (Err end) first
    → Reads {A = B} contents asked reads writes before now (Err end) (λ files. first files >>= f files)
reads-ended {A = A} {B = B} contents asked reads writes before now end first f one = record {
  follows = first-ends (contents before) (asked before) (asked now) first f end one.follows;
  stop = stop-same A B (CommandAnswer (contents before) (reads before) (reads now)) end one.stop;
  fault = λ e. one.fault (err-same B A end ends.ReadFault e);
  uncounted = uncounted-same A B (contents before) (reads before) (reads now) end one.uncounted;
  count = one.count;
  same_files = one.same_files;
  same_writes = one.same_writes;
} where
  stop-same : (A B : Type 0) (P : Reply → Type 0) (end : End) → IfStop {A = A} (Err end) P → IfStop {A = B} (Err end) P
  stop-same A B P (ends.Stop reply) p = p
  stop-same A B P ends.ReadFault p = tt
  stop-same A B P ends.NoMemory p = tt

  err-same : (A B : Type 0) (end e : End) → IsErrOf {T = A} (Err end) e → IsErrOf {T = B} (Err end) e
  err-same A B end e p = let same : end ≡ e = cc in ap Err same

  uncounted-same : (A B : Type 0) (old : Option Files) (before now : ℕ) (end : End)
      → IfSome old (λ _. ¬ IsErrOf {T = A} (Err end) ends.ReadFault → now ≡ before)
      → IfSome old (λ _. ¬ IsErrOf {T = B} (Err end) ends.ReadFault → now ≡ before)
  uncounted-same A B None before now end one = tt
  uncounted-same A B (Some files) before now end one = λ not. one (λ e. not (err-same A B end ends.ReadFault e))

-- what is made of what was read
pub reads-made : {S A B : Type 0} (contents : S → Option Files) (asked : S → List (List ℕ)) (reads writes : S → ℕ)
    (before now : S) (x : A) (first : Files → FileReading A) (make : A → B)
    → Reads contents asked reads writes before now (Ok x) first
    → Reads contents asked reads writes before now (Ok (make x)) (λ files. first files >>= (λ y. done (make y)))
reads-made contents asked reads writes before now x first make one =
    reads-went contents asked reads writes before now (make x) (λ files. first files >>= (λ y. done (make y)))
    (went-more contents asked reads writes before before now x first (went-nowhere contents reads writes before) one)
    (made-follows (contents before) (asked before) (asked now) first make x one.follows)

-- what asks for nothing and goes on, and then a reading
pub reads-told : {S A B : Type 0} (contents : S → Option Files) (asked : S → List (List ℕ)) (reads writes : S → ℕ)
    (before now : S) (value : Result A Reply) (x : A) (result : Result B End) (f : Files → A → FileReading B) → value ≡ Ok x
    → Reads contents asked reads writes before now result (λ files. f files x)
    → Reads contents asked reads writes before now result (λ files. told value >>= f files)
reads-told contents asked reads writes before now value x result f e one = rw e one

-- what asks for nothing and ends, by the answer to bad input or for want of memory
pub reads-refused : {S A : Type 0} (contents : S → Option Files) (asked : S → List (List ℕ)) (reads writes : S → ℕ)
    (now : S) (end : End) (value : Result A Reply) → Means (Err end) value
    → IfStop {A = A} (Err end) (λ reply. IsBadInput reply.outcome) → IfStop {A = A} (Err end) (λ reply. written_name reply.output ≡ None)
    → Reads contents asked reads writes now now (Err end) (λ files. told value)
reads-refused {A = A} contents asked reads writes now end value means bad none = record {
  follows = told-ends A (contents now) (asked now) end value means;
  stop = stops A (contents now) (reads now) end bad none;
  fault = λ e. absurd (not-fault A end value means e);
  uncounted = same-count _ (contents now) (reads now);
  count = omega arith;
  same_files = refl;
  same_writes = refl;
} where
  told-ends : (A : Type 0) (old : Option Files) (asked : List (List ℕ)) (end : End) (value : Result A Reply) → Means (Err end) value
      → IfSome old (λ files. Follows asked asked (Err end) (told value))
  told-ends A None asked end value means = tt
  told-ends A (Some files) asked (ends.Stop reply) value means = (means, sym (append-nil asked))
  told-ends A (Some files) asked ends.ReadFault value means = absurd means
  told-ends A (Some files) asked ends.NoMemory value means =
      record { first = []; others = []; whole = refl; asked = sym (append-nil asked) }

  bad-answer : (old : Option Files) (before now : ℕ) (o : Outcome) → IsBadInput o → IsCommandAnswer o × MissingHasCause old before now o
  bad-answer None before now (outcomes.BadInput word fault) bad = (tt, tt)
  bad-answer (Some files) before now (outcomes.BadInput word fault) bad = (tt, tt)
  bad-answer old before now outcomes.Done bad = absurd bad
  bad-answer old before now (outcomes.Refused place rule) bad = absurd bad
  bad-answer old before now (outcomes.Differ step) bad = absurd bad
  bad-answer old before now outcomes.BadWords bad = absurd bad
  bad-answer old before now outcomes.ReadFault bad = absurd bad
  bad-answer old before now outcomes.WriteFault bad = absurd bad
  bad-answer old before now outcomes.NoMemory bad = absurd bad
  bad-answer old before now (outcomes.TooLarge word) bad = absurd bad
  bad-answer old before now (outcomes.Missing word) bad = absurd bad

  stops : (A : Type 0) (old : Option Files) (now : ℕ) (end : End) → IfStop {A = A} (Err end) (λ reply. IsBadInput reply.outcome)
      → IfStop {A = A} (Err end) (λ reply. written_name reply.output ≡ None) → IfStop {A = A} (Err end) (CommandAnswer old now now)
  stops A old now (ends.Stop reply) bad none =
      let answer = bad-answer old now now reply.outcome bad in
      record { command = answer.0; output = none; missing = answer.1 }
  stops A old now ends.ReadFault bad none = tt
  stops A old now ends.NoMemory bad none = tt

  not-fault : (A : Type 0) (end : End) (value : Result A Reply) → Means (Err end) value → IsErrOf {T = A} (Err end) ends.ReadFault → ⊥
  not-fault A (ends.Stop reply) value means e = cc
  not-fault A ends.ReadFault value means e = means
  not-fault A ends.NoMemory value means e = cc

  same-count : (R : Type 0) (old : Option Files) (now : ℕ) → IfSome old (λ _. R → now ≡ now)
  same-count R None now = tt
  same-count R (Some files) now = λ r. refl
