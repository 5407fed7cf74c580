-- The loops over symbols and over fixups: one more is read, one is refused, all are read.
use Rattle.std.proofs.Common.{◌≡◌, ℕ, suc, ◌+◌, ◌-◌, ◌<◌, ◌≤◌, List, [], ◌∷◌, ◌++◌, Ok, Err, refl, arith}
use Rattle.std.proofs.lemmas.List.{map_push}
use Rattle.std.proofs.lemmas.List.Sums.{sum_by_push}
use Rattle.ebc_object.specs.declared.fault.ObjectEnd.{ObjectEnd}
use Rattle.ebc_object.specs.declared.fault.ObjectEnd.TheVariants as ends
use Rattle.ebc_object.specs.declared.object.Fixup.{Fixup}
use Rattle.ebc_object.specs.declared.object.Symbol.{Symbol}
use Rattle.ebc_object.specs.Files.{fixup_size, symbol_size}
use Rattle.ebc_object.specs.Readings.{Fails, fixup_at, fixups_at, names_of, symbol_at, symbols_at, symbols_size}

pub symbols_all : (n i : ℕ) (file code contents : List ℕ) (before : List Symbol) (at : ℕ) → n ≤ i
    → symbols_at (n - i) file code contents before at ≡ Ok before
unfolding symbols_at
symbols_all n i file code contents before at done = let none : n - i ≡ 0 = omega arith in rw none refl

pub symbols_more :
    (n i : ℕ) (file code contents : List ℕ) (names : List (List ℕ)) (before after : List Symbol) (at : ℕ) (s : Symbol) → i < n →
    names ≡ names_of before → after ≡ before ++ s ∷ [] → symbol_at file code contents names at ≡ Ok s →
    symbols_at (n - i) file code contents before at ≡ symbols_at (n - (i + 1)) file code contents after (at + symbol_size s)
unfolding symbols_at
symbols_more n i file code contents names before after at s below is pushed read =
    let count : n - i ≡ suc (n - (i + 1)) = omega arith in
    let here : symbol_at file code contents (names_of before) at ≡ Ok s = rw (← is) read in
    rw (count, here, pushed) refl

pub symbols_end :
    (n i : ℕ) (file code contents : List ℕ) (names : List (List ℕ)) (before : List Symbol) (at : ℕ) (e : ObjectEnd) → i < n →
    names ≡ names_of before → Fails e (symbol_at file code contents names at) → Fails e (symbols_at (n - i) file code contents before at)
unfolding symbols_at
symbols_end n i file code contents names before at ends.NoMemory below is failed = tt
symbols_end n i file code contents names before at (ends.Fault kind offset) below is failed =
    let count : n - i ≡ suc (n - (i + 1)) = omega arith in
    let here : symbol_at file code contents (names_of before) at ≡ Err (kind, offset) = rw (← is) failed in
    rw (count, here) refl

pub names_more : (old new : List (List ℕ)) (before after : List Symbol) (s : Symbol) → old ≡ names_of before → after ≡ before ++ s ∷ []
    → new ≡ old ++ s.name ∷ [] → new ≡ names_of after
names_more old new before after s is pushed added = rw (added, pushed, is, map_push) refl

pub size_more : (start at next : ℕ) (before after : List Symbol) (s : Symbol) → at ≡ start + symbols_size before → after ≡ before ++ s ∷ []
    → next ≡ at + symbol_size s → next ≡ start + symbols_size after
size_more start at next before after s is pushed step =
    let more : symbols_size (before ++ s ∷ []) ≡ symbols_size before + symbol_size s = sum_by_push symbol_size before s in
    rw pushed (omega (arith, more))

pub fixups_all : (n i : ℕ) (file code contents : List ℕ) (symbols : ℕ) (before : List Fixup) (at : ℕ) → n ≤ i
    → fixups_at (n - i) file code contents symbols before at ≡ Ok before
unfolding fixups_at
fixups_all n i file code contents symbols before at done = let none : n - i ≡ 0 = omega arith in rw none refl

pub fixups_more :
    (n i : ℕ) (file code contents : List ℕ) (symbols : ℕ) (seen before after : List Fixup) (at : ℕ) (f : Fixup) → i < n →
    seen ≡ before → after ≡ before ++ f ∷ [] → fixup_at file code contents symbols seen at ≡ Ok f →
    fixups_at (n - i) file code contents symbols before at ≡ fixups_at (n - (i + 1)) file code contents symbols after (at + fixup_size)
unfolding fixups_at
fixups_more n i file code contents symbols seen before after at f below is pushed read =
    let count : n - i ≡ suc (n - (i + 1)) = omega arith in
    let here : fixup_at file code contents symbols before at ≡ Ok f = rw (← is) read in
    rw (count, here, pushed) refl

pub fixups_end :
    (n i : ℕ) (file code contents : List ℕ) (symbols : ℕ) (seen before : List Fixup) (at : ℕ) (e : ObjectEnd) → i < n →
    seen ≡ before → Fails e (fixup_at file code contents symbols seen at) → Fails e (fixups_at (n - i) file code contents symbols before at)
unfolding fixups_at
fixups_end n i file code contents symbols seen before at ends.NoMemory below is failed = tt
fixups_end n i file code contents symbols seen before at (ends.Fault kind offset) below is failed =
    let count : n - i ≡ suc (n - (i + 1)) = omega arith in
    let here : fixup_at file code contents symbols before at ≡ Err (kind, offset) = rw (← is) failed in
    rw (count, here) refl
