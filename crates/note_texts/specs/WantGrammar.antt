-- For proofs: the grammar of the texts of what a native method takes and gives. docs/NOTES.md has it in words.
use Rattle.std.specs.Prelude.{◌≡◌, ℕ, ◌^◌, ◌<◌, ◌≤◌, pos, List, [], ◌++◌, Some, None, ⊤, codes}
use Rattle.std.specs.Fmt.{decimal}
use Rattle.note_texts.specs.Grammar.{IsCellText}
use Rattle.note_types.specs.Passing.{IsParameterKind}
use Rattle.note_texts.specs.SlotGrammar.{kind_text}
use Rattle.note_texts.specs.TypeGrammar.{IsRangeText, IsTypeText}
use Rattle.note_texts.specs.declared.ty.TypeText.{TypeText}
use Rattle.note_texts.specs.declared.ty.TypeText.TheVariants as types
use Rattle.note_texts.specs.declared.want.ResultText.{ResultText}
use Rattle.note_texts.specs.declared.want.WantParamText.{WantParamText}
use Rattle.note_texts.specs.declared.want.WantText.{WantText}
use Rattle.note_texts.specs.declared.want.WantText.TheVariants.{Any, Int, Size, Ptr, Handle, Status, Entry, Out, Inout}
use Rattle.std.specs.Prelude.{Option}

-- `N,C`, each from 0 to 2^20
abbrev pub IsSizeText : List ℕ → ℕ → ℕ → Type 0
IsSizeText text n c = (text ≡ decimal n ++ (codes "," ++ decimal c)) × (n ≤ 2 ^ 20) × (c ≤ 2 ^ 20)

-- WANT
abbrev pub IsWantText : List ℕ → WantText → Type 0
IsWantText text Any = text ≡ codes "any"
IsWantText text (Int lo hi) = (range : List ℕ) × (text ≡ codes "int:" ++ range) × IsRangeText range lo hi
IsWantText text (Size n c) = (size : List ℕ) × (text ≡ codes "size:" ++ size) × IsSizeText size n c
IsWantText text Ptr = text ≡ codes "ptr"
IsWantText text Handle = text ≡ codes "handle"
IsWantText text Status = text ≡ codes "status"
IsWantText text Entry = text ≡ codes "entry"
IsWantText text (Out cell) = (rest : List ℕ) × (text ≡ codes "out:" ++ rest) × IsCellText rest cell
IsWantText text (Inout cell) = (rest : List ℕ) × (text ≡ codes "inout:" ++ rest) × IsCellText rest cell

-- `n WANT` or `q WANT`
abbrev pub IsWantParamText : List ℕ → WantParamText → Type 0
IsWantParamText text p = (want : List ℕ) × (text ≡ kind_text p.kind ++ (codes " " ++ want)) × IsParameterKind p.kind
    × IsWantText want p.want

-- what a native method may give: a status with no grants, a handle, numbers below 2^32, or the start of an instance
abbrev pub IsGiven : TypeText → Type 0
IsGiven (types.Status []) = ⊤
IsGiven types.Handle = ⊤
IsGiven (types.Int lo hi div) = hi < 2 ^ 32
IsGiven (types.Ptr shape count n c null) = (n ≡ pos 0) × (c ≡ pos 0)
IsGiven _ = ⊥

-- `none`, or the TYPE of what is given
abbrev pub IsGivenText : List ℕ → Option TypeText → Type 0
IsGivenText text None = text ≡ codes "none"
IsGivenText text (Some ty) = IsTypeText text ty × IsGiven ty

abbrev pub IsResultText : List ℕ → ResultText → Type 0
IsResultText text r = IsGivenText text r.ty
