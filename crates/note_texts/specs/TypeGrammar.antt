-- Meaning: the grammar of the texts of types: what each is made of, by its value. docs/NOTES.md has it in words.
use Rattle.std.specs.Prelude.{◌≡◌, ◌⊎◌, ℕ, ◌+◌, ◌-◌, ◌*◌, ◌^◌, ◌<◌, ◌≤◌, ℤ, pos, List, [], ◌∷◌, ◌++◌, ⊤, codes}
use Rattle.std.specs.Fmt.{decimal, signed_decimal}
use Rattle.std.specs.List.{flat_map}
use Rattle.note_types.specs.Types.{IsNear, IsUnits}
use Rattle.note_texts.specs.Grammar.{IsCellText, IsCounted, IsName, mark_of}
use Rattle.note_texts.specs.declared.ty.TypeText.{TypeText}
use Rattle.note_texts.specs.declared.ty.TypeText.TheVariants.{Any, Int, Lin, Scaled, Ptr, Local, Lent, Status, SignedStatus, Mask, Handle}
use Rattle.note_texts.specs.declared.ty.TypeText.TheVariants.{Entry, Method, ThunkAt, Saved}

-- `LO..HI`
abbrev pub range_text : ℕ → ℕ → List ℕ
range_text lo hi = decimal lo ++ (codes ".." ++ decimal hi)

-- `N,C`
abbrev pub pair_text : ℤ → ℤ → List ℕ
pair_text n c = signed_decimal n ++ (codes "," ++ signed_decimal c)

-- `LO..HI`, LO at most HI
abbrev pub IsRangeText : List ℕ → ℕ → ℕ → Type 0
IsRangeText text lo hi = (text ≡ range_text lo hi) × (lo ≤ hi) × (hi < 2 ^ 64)

-- `N,C`, N from low to 2^20 and C from -2^20 to 2^20
abbrev pub IsPairText : ℕ → List ℕ → ℤ → ℤ → Type 0
IsPairText low text n c = (text ≡ pair_text n c) × IsUnits low n × IsNear c

-- `LO..HI/DIV`, or `LO..HI` where DIV is 1
abbrev pub IsIntText : List ℕ → ℕ → ℕ → ℕ → Type 0
IsIntText text lo hi div =
    (lo ≤ hi) × (hi < 2 ^ 64) × (1 ≤ div) × (div < 2 ^ 64)
    × (((text ≡ range_text lo hi) × (div ≡ 1)) ⊎ (text ≡ range_text lo hi ++ (codes "/" ++ decimal div)))

-- `N,C,HI`, where HI × (8N + C) is below 2^32
abbrev pub IsScaledText : List ℕ → ℕ → ℕ → ℕ → Type 0
IsScaledText text n c hi =
    (text ≡ decimal n ++ (codes "," ++ (decimal c ++ (codes "," ++ decimal hi))))
    × (1 ≤ n) × (n < 2 ^ 64) × (c < 2 ^ 64) × (hi < 2 ^ 64) × (hi * (8 * n + c) < 2 ^ 32)

-- `+N,C`, or nothing where both are 0
abbrev pub IsOffsetText : List ℕ → ℤ → ℤ → Type 0
IsOffsetText text n c =
    ((text ≡ []) × (n ≡ pos 0) × (c ≡ pos 0))
    ⊎ ((pair : List ℕ) × (text ≡ codes "+" ++ pair) × IsPairText 0 pair n c)

-- each is a NAME
abbrev pub AreNames : List (List ℕ) → Type 0
AreNames [] = ⊤
AreNames (name ∷ names) = IsName name × AreNames names

-- the fields that a status grants: `!F!G`
abbrev pub grants_text : List (List ℕ) → List ℕ
grants_text names = flat_map (λ name. codes "!" ++ name) names

-- TYPE
abbrev pub IsTypeText : List ℕ → TypeText → Type 0
IsTypeText text Any = text ≡ codes "any"
IsTypeText text (Int lo hi div) =
    ((text ≡ codes "int") × (lo ≡ 0) × (hi ≡ 2 ^ 64 - 1) × (div ≡ 1))
    ⊎ ((range : List ℕ) × (text ≡ codes "int:" ++ range) × IsIntText range lo hi div)
IsTypeText text (Lin n c) = (pair : List ℕ) × (text ≡ codes "lin:" ++ pair) × IsPairText 1 pair n c
IsTypeText text (Scaled n c hi) = (rest : List ℕ) × (text ≡ codes "scaled:" ++ rest) × IsScaledText rest n c hi
IsTypeText text (Ptr shape count n c null) =
    (target : List ℕ) × (offset : List ℕ) × (text ≡ codes "ptr" ++ (mark_of null ++ (target ++ offset)))
    × IsCounted target shape count × IsOffsetText offset n c
IsTypeText text (Local name) = (text ≡ codes "local:" ++ name) × IsName name
IsTypeText text (Lent cell) = (rest : List ℕ) × (text ≡ codes "lent:" ++ rest) × IsCellText rest cell
IsTypeText text (Status names) = (text ≡ codes "status" ++ grants_text names) × AreNames names
IsTypeText text (SignedStatus names) = (text ≡ codes "sstatus" ++ grants_text names) × AreNames names
IsTypeText text Mask = text ≡ codes "mask"
IsTypeText text Handle = text ≡ codes "handle"
IsTypeText text Entry = text ≡ codes "entry"
IsTypeText text (Method name) = (text ≡ codes "method:" ++ name) × IsName name
IsTypeText text (ThunkAt index) = (text ≡ codes "thunk:" ++ decimal index) × (index < 2 ^ 32)
IsTypeText text (Saved register) = (text ≡ codes "saved:" ++ decimal register) × (1 ≤ register) × (register ≤ 3)
