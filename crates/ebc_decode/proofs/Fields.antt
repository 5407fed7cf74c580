-- The fields of a spelling and what stands in them, both ways: as they are spelled, and as they are read.
use Rattle.std.proofs.Common.{◌≡◌, ◌⊎◌, ℕ, ◌/◌, ◌^◌, ◌<◌, Bool, true, false, List, [], ◌∷◌, length, arith, ⊎_elim, ap, subst, sym, refl}
use Rattle.std.proofs.Common.{◌∙◌, Option, Some, None, ℤ, inl, inr, if◌then◌else◌, is_some, not, ◌&&◌}
use Rattle.std.specs.Prelude.{⊤}
use Rattle.std.specs.Option.{option_map}
use Rattle.std.proofs.lemmas.Nat.{from_le_bytes-to_le_bytes_2, from_le_bytes-to_le_bytes_4, from_le_bytes-to_le_bytes_8, le_bytes_2}
use Rattle.std.proofs.lemmas.Nat.{le_bytes_4, le_bytes_8}
use Rattle.natural_index.specs.Index.{IsIndex, IsIndexSize, index_of, raw_of}
use Rattle.natural_index.specs.declared.Index.{Index}
use Rattle.natural_index.proofs.Laws.{index_again, raw_below, spells_read}
use Rattle.ebc_insn.specs.declared.Operand.{Operand}
use Rattle.ebc_insn.specs.declared.Extra.{Extra}
use Rattle.ebc_insn.specs.declared.Extra.TheVariants.{Nothing, Imm, Idx}
use Rattle.ebc_insn.specs.declared.code.Field.{Field}
use Rattle.ebc_insn.specs.declared.code.Field.TheVariants as fields
use Rattle.ebc_insn.specs.Spelling.{ExtraFits, FitsInt, LeftFits, RightFits, extra_field, field, field_bytes, field_size, has_extra}
use Rattle.ebc_insn.specs.Spelling.{immediate_bits, index_field, int_field, int_raw, optional_field}
use Rattle.ebc_decode.specs.Reading.{extra_at, field_at, index_at, int32_at, int_at, optional_at, size_if}
use Rattle.ebc_decode.proofs.Numbers.{IsBytes, signed_again, signed_below, signed_fits, signed_whole}
use Rattle.ebc_width.specs.Width.{signed_at}

-- ---- bytes and fields

-- The sizes of a field.
abbrev pub IsFieldSize : ℕ → Type 0
IsFieldSize n = (n ≡ 0) ⊎ (n ≡ 2) ⊎ (n ≡ 4) ⊎ (n ≡ 8)

-- The number in a field is one of its bytes.
abbrev pub FieldFits : Field → Type 0
FieldFits fields.Nothing = ⊤
FieldFits (fields.Word n) = n < 2 ^ 16
FieldFits (fields.Dword n) = n < 2 ^ 32
FieldFits (fields.Qword n) = n < 2 ^ 64

-- What holds of a list of each size of a field holds of a list of some size of a field.
by_size :
    (P : List ℕ → Type 0) → P [] → ((a b : ℕ) → P (a ∷ b ∷ [])) → ((a b c d : ℕ) → P (a ∷ b ∷ c ∷ d ∷ [])) →
    ((a b c d e f g h : ℕ) → P (a ∷ b ∷ c ∷ d ∷ e ∷ f ∷ g ∷ h ∷ [])) → (bytes : List ℕ) → IsFieldSize (length bytes) →
    P bytes
by_size P none two four eight [] size = none
by_size P none two four eight (a ∷ []) size = absurd (omega arith)
by_size P none two four eight (a ∷ b ∷ []) size = two a b
by_size P none two four eight (a ∷ b ∷ c ∷ []) size = absurd (omega arith)
by_size P none two four eight (a ∷ b ∷ c ∷ d ∷ []) size = four a b c d
by_size P none two four eight (a ∷ b ∷ c ∷ d ∷ e ∷ []) size = absurd (omega arith)
by_size P none two four eight (a ∷ b ∷ c ∷ d ∷ e ∷ f ∷ []) size = absurd (omega arith)
by_size P none two four eight (a ∷ b ∷ c ∷ d ∷ e ∷ f ∷ g ∷ []) size = absurd (omega arith)
by_size P none two four eight (a ∷ b ∷ c ∷ d ∷ e ∷ f ∷ g ∷ h ∷ []) size = eight a b c d e f g h
by_size P none two four eight (a ∷ b ∷ c ∷ d ∷ e ∷ f ∷ g ∷ h ∷ i ∷ rest) size = absurd (omega arith)

-- A field read from bytes has their number, fits them, and is spelled by them.
pub record IsFieldOf (bytes : List ℕ) (f : Field) : Type 0 where
  pub size : field_size f ≡ length bytes
  pub fits : FieldFits f
  pub spelled : field_bytes f ≡ bytes

-- The same of bytes that are below 256.
ReadsField : List ℕ → Type 0
ReadsField bytes = IsBytes bytes → IsFieldOf bytes (field_at bytes)

reads_none : ReadsField []
unfolding ReadsField field_at field_bytes
reads_none each = record { size = refl; fits = tt; spelled = refl }

reads_two : (a b : ℕ) → ReadsField (a ∷ b ∷ [])
unfolding ReadsField field_at field_bytes
reads_two a b each = record {
  size = refl;
  fits = omega (arith, each 0, each 1);
  spelled = le_bytes_2 (a ∷ b ∷ []) _ refl each refl;
}

reads_four : (a b c d : ℕ) → ReadsField (a ∷ b ∷ c ∷ d ∷ [])
unfolding ReadsField field_at field_bytes
reads_four a b c d each = record {
  size = refl;
  fits = omega (arith, each 0, each 1, each 2, each 3);
  spelled = le_bytes_4 (a ∷ b ∷ c ∷ d ∷ []) _ refl each refl;
}

reads_eight : (a b c d e f g h : ℕ) → ReadsField (a ∷ b ∷ c ∷ d ∷ e ∷ f ∷ g ∷ h ∷ [])
unfolding ReadsField field_at field_bytes
reads_eight a b c d e f g h each = record {
  size = refl;
  fits = omega (arith, each 0, each 1, each 2, each 3, each 4, each 5, each 6, each 7);
  spelled = le_bytes_8 (a ∷ b ∷ c ∷ d ∷ e ∷ f ∷ g ∷ h ∷ []) _ refl each refl;
}

pub reads_field : (bytes : List ℕ) → IsBytes bytes → IsFieldSize (length bytes) → IsFieldOf bytes (field_at bytes)
unfolding ReadsField
reads_field bytes each size = by_size ReadsField reads_none reads_two reads_four reads_eight bytes size each

-- A field is read from its bytes.
pub field_again : (f : Field) → FieldFits f → field_at (field_bytes f) ≡ f
unfolding field_at field_bytes
field_again fields.Nothing h = refl
field_again (fields.Word n) h = ap fields.Word (from_le_bytes-to_le_bytes_2 n h)
field_again (fields.Dword n) h = ap fields.Dword (from_le_bytes-to_le_bytes_4 n h)
field_again (fields.Qword n) h = ap fields.Qword (from_le_bytes-to_le_bytes_8 n h)

-- ---- what stands in a field, as it is spelled

-- What holds at 16, 32 and 64 bits holds at each size of an index.
by_bits : (P : ℕ → Type 0) → P 16 → P 32 → P 64 → (bits : ℕ) → IsIndexSize bits → P bits
by_bits P word dword qword bits size =
    ⊎_elim (λ e. subst P (sym e) word) (⊎_elim (λ e. subst P (sym e) dword) (λ e. subst P (sym e) qword)) size

pub bits_sized : (bits : ℕ) → IsIndexSize bits → IsFieldSize (bits / 8)
bits_sized bits size =
    by_bits (λ k. IsFieldSize (k / 8)) (inr (inl refl)) (inr (inr (inl refl))) (inr (inr (inr refl))) bits size

pub field_size_of : (bits raw : ℕ) → IsIndexSize bits → field_size (field bits raw) ≡ bits / 8
field_size_of bits raw size = by_bits (λ k. field_size (field k raw) ≡ k / 8) refl refl refl bits size

pub field_fits : (bits raw : ℕ) → IsIndexSize bits → raw < 2 ^ bits → FieldFits (field bits raw)
field_fits bits raw size = by_bits (λ k. raw < 2 ^ k → FieldFits (field k raw)) (λ h. h) (λ h. h) (λ h. h) bits size

int_of_field : (bits raw : ℕ) → IsIndexSize bits → int_at (field bits raw) ≡ signed_at bits raw
int_of_field bits raw size = by_bits (λ k. int_at (field k raw) ≡ signed_at k raw) refl refl refl bits size

index_of_field : (bits raw : ℕ) → IsIndexSize bits → index_at (field bits raw) ≡ index_of bits raw
index_of_field bits raw size = by_bits (λ k. index_at (field k raw) ≡ index_of k raw) refl refl refl bits size

pub int_again : (bits : ℕ) (v : ℤ) → IsIndexSize bits → FitsInt bits v → int_at (int_field bits v) ≡ v
int_again bits v size h = int_of_field bits (int_raw bits v) size ∙ signed_again bits v (omega (arith, size)) h

pub int_fits : (bits : ℕ) (v : ℤ) → IsIndexSize bits → FitsInt bits v → FieldFits (int_field bits v)
int_fits bits v size h = field_fits bits _ size (signed_below bits v (omega (arith, size)) h)

pub int_size : (bits : ℕ) (v : ℤ) → IsIndexSize bits → field_size (int_field bits v) ≡ bits / 8
int_size bits v size = field_size_of bits (int_raw bits v) size

-- The immediate of a comparison has 16 or 32 bits.
pub int32_again :
    (long : Bool) (v : ℤ) → FitsInt (immediate_bits long) v → int32_at (int_field (immediate_bits long) v) ≡ v
int32_again true v h = signed_again 32 v (omega arith) h
int32_again false v h = signed_again 16 v (omega arith) h

pub index_size : (bits : ℕ) (i : Index) → IsIndexSize bits → field_size (index_field bits i) ≡ bits / 8
index_size bits i size = field_size_of bits (raw_of bits i) size

pub index_in_field : (bits : ℕ) (i : Index) → IsIndexSize bits → IsIndex bits i → index_at (index_field bits i) ≡ Some i
index_in_field bits i size h = index_of_field bits (raw_of bits i) size ∙ index_again bits i (omega (arith, size)) h

pub index_fits : (bits : ℕ) (i : Index) → IsIndexSize bits → IsIndex bits i → FieldFits (index_field bits i)
index_fits bits i size h = field_fits bits _ size (raw_below bits i (omega (arith, size)) h)

-- ---- what stands in a field that may have no bytes, as it is spelled

OptionalOfField : ℕ → ℕ → Type 0
OptionalOfField raw bits = optional_at (field bits raw) ≡ option_map Some (index_at (field bits raw))

optional_of_field : (bits raw : ℕ) → IsIndexSize bits → OptionalOfField raw bits
unfolding OptionalOfField
optional_of_field bits raw size = by_bits (OptionalOfField raw) refl refl refl bits size

pub optional_again :
    (bits : ℕ) (x : Option Index) → IsIndexSize bits → RightFits bits x → optional_at (optional_field bits x) ≡ Some x
unfolding OptionalOfField
optional_again bits None size h = refl
optional_again bits (Some i) size h =
    optional_of_field bits (raw_of bits i) size ∙ ap (option_map Some) (index_in_field bits i size h)

pub optional_size :
    (bits : ℕ) (x : Option Index) → IsIndexSize bits → size_if (is_some x) bits ≡ field_size (optional_field bits x)
optional_size bits None size = refl
optional_size bits (Some i) size = sym (field_size_of bits (raw_of bits i) size)

pub optional_fits :
    (bits : ℕ) (x : Option Index) → IsIndexSize bits → RightFits bits x → FieldFits (optional_field bits x)
optional_fits bits None size h = tt
optional_fits bits (Some i) size h = index_fits bits i size h

-- An index of operand 1 is one of as many bits, and isn't direct.
pub left_right : (bits : ℕ) (o : Operand) (x : Option Index) → LeftFits bits o x → RightFits bits x
left_right bits o None h = h
left_right bits o (Some i) h = h.1

pub not_direct : (bits : ℕ) (o : Operand) (x : Option Index) → LeftFits bits o x → (is_some x && not o.indirect) ≡ false
not_direct bits o None h = refl
not_direct bits o (Some i) h = rw h.0 refl

ExtraOfField : Operand → ℕ → ℕ → Type 0
ExtraOfField o raw bits =
    extra_at o (field bits raw) ≡ (if o.indirect then option_map Idx (index_at (field bits raw)) else Some
    (Imm (int_at (field bits raw))))

extra_of_field : (bits raw : ℕ) (o : Operand) → IsIndexSize bits → ExtraOfField o raw bits
unfolding ExtraOfField
extra_of_field bits raw o size = by_bits (ExtraOfField o raw) refl refl refl bits size

pub extra_again :
    (bits : ℕ) (o : Operand) (x : Extra) → IsIndexSize bits → ExtraFits bits o x →
    extra_at o (extra_field bits x) ≡ Some x
unfolding ExtraOfField
extra_again bits o Nothing size h = refl
extra_again bits o (Imm v) size h =
    extra_of_field bits (int_raw bits v) o size ∙ rw (h.0, int_again bits v size h.1) refl
extra_again bits o (Idx i) size h =
    extra_of_field bits (raw_of bits i) o size ∙ rw (h.0, index_in_field bits i size h.1) refl

pub extra_size :
    (bits : ℕ) (x : Extra) → IsIndexSize bits → size_if (has_extra x) bits ≡ field_size (extra_field bits x)
extra_size bits Nothing size = refl
extra_size bits (Imm v) size = sym (field_size_of bits (int_raw bits v) size)
extra_size bits (Idx i) size = sym (field_size_of bits (raw_of bits i) size)

pub extra_fits :
    (bits : ℕ) (o : Operand) (x : Extra) → IsIndexSize bits → ExtraFits bits o x → FieldFits (extra_field bits x)
extra_fits bits o Nothing size h = tt
extra_fits bits o (Imm v) size h = int_fits bits v size h.1
extra_fits bits o (Idx i) size h = index_fits bits i size h.1

-- ---- what stands in a field, as it is read

in_nothing : (P : Field → Type 0) → P fields.Nothing → (f : Field) → field_size f ≡ 0 → P f
in_nothing P none fields.Nothing e = none
in_nothing P none (fields.Word n) e = absurd (omega arith)
in_nothing P none (fields.Dword n) e = absurd (omega arith)
in_nothing P none (fields.Qword n) e = absurd (omega arith)

-- What holds of each raw number of so many bits holds of a field of their size.
HoldsIn : (Field → Type 0) → Field → ℕ → Type 0
HoldsIn P f bits = ((raw : ℕ) → raw < 2 ^ bits → P (field bits raw)) → field_size f ≡ bits / 8 → FieldFits f → P f

in_word : (P : Field → Type 0) (f : Field) → HoldsIn P f 16
unfolding HoldsIn
in_word P fields.Nothing each e h = absurd (omega arith)
in_word P (fields.Word n) each e h = each n h
in_word P (fields.Dword n) each e h = absurd (omega arith)
in_word P (fields.Qword n) each e h = absurd (omega arith)

in_dword : (P : Field → Type 0) (f : Field) → HoldsIn P f 32
unfolding HoldsIn
in_dword P fields.Nothing each e h = absurd (omega arith)
in_dword P (fields.Word n) each e h = absurd (omega arith)
in_dword P (fields.Dword n) each e h = each n h
in_dword P (fields.Qword n) each e h = absurd (omega arith)

in_qword : (P : Field → Type 0) (f : Field) → HoldsIn P f 64
unfolding HoldsIn
in_qword P fields.Nothing each e h = absurd (omega arith)
in_qword P (fields.Word n) each e h = absurd (omega arith)
in_qword P (fields.Dword n) each e h = absurd (omega arith)
in_qword P (fields.Qword n) each e h = each n h

in_bits : (P : Field → Type 0) (bits : ℕ) (f : Field) → IsIndexSize bits → HoldsIn P f bits
in_bits P bits f size = by_bits (HoldsIn P f) (in_word P f) (in_dword P f) (in_qword P f) bits size

-- An immediate of so many bits is spelled by the field that it was read from.
ReadsInt : ℕ → Field → Type 0
ReadsInt bits f = (int_field bits (int_at f) ≡ f) × FitsInt bits (int_at f)

reads_int : (bits raw : ℕ) → IsIndexSize bits → raw < 2 ^ bits → ReadsInt bits (field bits raw)
unfolding ReadsInt
reads_int bits raw size h =
    let some : 0 < bits = omega (arith, size) in
    rw (int_of_field bits raw size) (ap (field bits) (signed_whole bits raw some h), signed_fits bits raw some h)

pub int_whole :
    (bits : ℕ) (f : Field) → IsIndexSize bits → field_size f ≡ bits / 8 → FieldFits f →
    (int_field bits (int_at f) ≡ f) × FitsInt bits (int_at f)
unfolding HoldsIn ReadsInt
int_whole bits f size e h = in_bits (ReadsInt bits) bits f size (λ raw below. reads_int bits raw size below) e h

-- The same of the immediate of a comparison.
ReadsInt32 : Bool → Field → Type 0
ReadsInt32 long f = (int_field (immediate_bits long) (int32_at f) ≡ f) × FitsInt (immediate_bits long) (int32_at f)

pub int32_whole :
    (long : Bool) (f : Field) → field_size f ≡ (if long then 4 else 2) → FieldFits f →
    (int_field (immediate_bits long) (int32_at f) ≡ f) × FitsInt (immediate_bits long) (int32_at f)
unfolding HoldsIn ReadsInt32
int32_whole true f e h =
    in_dword (ReadsInt32 true) f (λ raw below.
    (ap fields.Dword (signed_whole 32 raw (omega arith) below), signed_fits 32 raw (omega arith) below)) e h
int32_whole false f e h =
    in_word (ReadsInt32 false) f (λ raw below.
    (ap fields.Word (signed_whole 16 raw (omega arith) below), signed_fits 16 raw (omega arith) below)) e h

-- A field of no bytes.
pub nothing_whole : (f : Field) → field_size f ≡ 0 → fields.Nothing ≡ f
nothing_whole f e = in_nothing (λ g. fields.Nothing ≡ g) refl f e

-- An index of so many bits is spelled by the field that it was read from.
ReadsIndex : ℕ → Index → Field → Type 0
ReadsIndex bits i f = index_at f ≡ Some i → (index_field bits i ≡ f) × IsIndex bits i

reads_index : (bits raw : ℕ) (i : Index) → IsIndexSize bits → raw < 2 ^ bits → ReadsIndex bits i (field bits raw)
unfolding ReadsIndex
reads_index bits raw i size h e =
    let spelled = spells_read bits raw i size h (sym (index_of_field bits raw size) ∙ e) in
    (ap (field bits) (sym spelled.sum), spelled.room)

pub index_whole :
    (bits : ℕ) (f : Field) (i : Index) → IsIndexSize bits → field_size f ≡ bits / 8 → FieldFits f →
    index_at f ≡ Some i →
    (index_field bits i ≡ f) × IsIndex bits i
unfolding HoldsIn ReadsIndex
index_whole bits f i size e h =
    in_bits (ReadsIndex bits i) bits f size (λ raw below. reads_index bits raw i size below) e h

-- An index or nothing is spelled by the field that it was read from, and is there as the two bytes say.
pub record IsOptionalOf (bits : ℕ) (there : Bool) (f : Field) (x : Option Index) : Type 0 where
  pub same : optional_field bits x ≡ f
  pub fits : RightFits bits x
  pub presence : is_some x ≡ there

pub some_same : {A : Type 0} (x y : A) → Some x ≡ Some y → x ≡ y
some_same x y e = cc

ReadsOptional : ℕ → Bool → Option Index → Field → Type 0
ReadsOptional bits there x f = optional_at f ≡ Some x → IsOptionalOf bits there f x

no_optional : (bits : ℕ) (x : Option Index) → ReadsOptional bits false x fields.Nothing
unfolding ReadsOptional
no_optional bits None e = record { same = refl; fits = tt; presence = refl }
no_optional bits (Some i) e = absurd (cc (some_same None (Some i) e))

-- An index that was read is in its field.
mapped_index :
    (bits : ℕ) (f : Field) (o x : Option Index) → index_at f ≡ o → option_map Some o ≡ Some x →
    ((i : Index) → index_at f ≡ Some i → (index_field bits i ≡ f) × IsIndex bits i) → IsOptionalOf bits true f x
mapped_index bits f None x p e whole = absurd (cc)
mapped_index bits f (Some i) None p e whole = absurd (cc (some_same (Some i) None e))
mapped_index bits f (Some i) (Some j) p e whole =
    let same : i ≡ j = some_same i j (some_same (Some i) (Some j) e) in
    let w = whole j (p ∙ ap Some same) in
    record { same = w.0; fits = w.1; presence = refl }

reads_optional :
    (bits raw : ℕ) (x : Option Index) → IsIndexSize bits → raw < 2 ^ bits → ReadsOptional bits true x (field bits raw)
unfolding ReadsOptional OptionalOfField ReadsIndex
reads_optional bits raw x size h e =
    mapped_index bits (field bits raw) _ x refl (sym (optional_of_field bits raw size) ∙ e)
    (λ i read. reads_index bits raw i size h read)

pub optional_whole :
    (bits : ℕ) (there : Bool) (f : Field) (x : Option Index) → IsIndexSize bits → field_size f ≡ size_if there bits →
    FieldFits f → optional_at f ≡ Some x → IsOptionalOf bits there f x
unfolding HoldsIn ReadsOptional
optional_whole bits false f x size e h = in_nothing (ReadsOptional bits false x) (no_optional bits x) f e
optional_whole bits true f x size e h =
    in_bits (ReadsOptional bits true x) bits f size (λ raw below. reads_optional bits raw x size below) e h

-- An index of operand 1 that isn't direct fits there.
pub left_fits :
    (bits : ℕ) (o : Operand) (x : Option Index) (there : Bool) → RightFits bits x → is_some x ≡ there →
    (there && not o.indirect) ≡ false → LeftFits bits o x
left_fits bits o None there h p e = tt
left_fits bits o (Some i) there h p e =
    (indirect o.indirect (subst (λ b. (b && not o.indirect) ≡ false) (sym p) e), h) where
      indirect : (b : Bool) → (true && not b) ≡ false → b ≡ true
      indirect true e = refl
      indirect false e = absurd (cc)

-- What stands beside an operand is spelled by the field that it was read from, and is there as the two bytes say.
pub record IsExtraOf (bits : ℕ) (there : Bool) (o : Operand) (f : Field) (x : Extra) : Type 0 where
  pub same : extra_field bits x ≡ f
  pub fits : ExtraFits bits o x
  pub presence : has_extra x ≡ there

ReadsExtra : ℕ → Bool → Operand → Extra → Field → Type 0
ReadsExtra bits there o x f = extra_at o f ≡ Some x → IsExtraOf bits there o f x

no_extra : (bits : ℕ) (o : Operand) (x : Extra) → ReadsExtra bits false o x fields.Nothing
unfolding ReadsExtra
no_extra bits o Nothing e = record { same = refl; fits = tt; presence = refl }
no_extra bits o (Imm v) e = absurd (cc (some_same Nothing (Imm v) e))
no_extra bits o (Idx i) e = absurd (cc (some_same Nothing (Idx i) e))

-- An immediate that was read beside a direct operand is in its field.
read_imm :
    (bits : ℕ) (o : Operand) (f : Field) (x : Extra) → o.indirect ≡ false → Some (Imm (int_at f)) ≡ Some x →
    (int_field bits (int_at f) ≡ f) × FitsInt bits (int_at f) → IsExtraOf bits true o f x
read_imm bits o f x direct e whole =
    subst (IsExtraOf bits true o f) (some_same (Imm (int_at f)) x e)
    (record { same = whole.0; fits = (direct, whole.1); presence = refl })

-- An index that was read beside an indirect operand is in its field.
read_idx :
    (bits : ℕ) (o : Operand) (f : Field) (p : Option Index) (x : Extra) → o.indirect ≡ true → index_at f ≡ p →
    option_map Idx p ≡ Some x → ((i : Index) → index_at f ≡ Some i → (index_field bits i ≡ f) × IsIndex bits i) →
    IsExtraOf bits true o f x
read_idx bits o f None x indirect read e whole = absurd (cc)
read_idx bits o f (Some i) x indirect read e whole =
    let w = whole i read in
    subst (IsExtraOf bits true o f) (some_same (Idx i) x e)
    (record { same = w.0; fits = (indirect, w.1); presence = refl })

read_extra :
    (bits : ℕ) (o : Operand) (f : Field) (x : Extra) (b : Bool) → o.indirect ≡ b →
    (if b then option_map Idx (index_at f) else Some (Imm (int_at f))) ≡ Some x →
    (int_field bits (int_at f) ≡ f) × FitsInt bits (int_at f) →
    ((i : Index) → index_at f ≡ Some i → (index_field bits i ≡ f) × IsIndex bits i) → IsExtraOf bits true o f x
read_extra bits o f x true at e int index = read_idx bits o f _ x at refl e index
read_extra bits o f x false at e int index = read_imm bits o f x at e int

reads_extra :
    (bits raw : ℕ) (o : Operand) (x : Extra) → IsIndexSize bits → raw < 2 ^ bits →
    ReadsExtra bits true o x (field bits raw)
unfolding ReadsExtra ExtraOfField ReadsIndex ReadsInt
reads_extra bits raw o x size h e =
    read_extra bits o (field bits raw) x o.indirect refl (sym (extra_of_field bits raw o size) ∙ e)
    (reads_int bits raw size h) (λ i read. reads_index bits raw i size h read)

pub extra_whole :
    (bits : ℕ) (there : Bool) (o : Operand) (f : Field) (x : Extra) → IsIndexSize bits →
    field_size f ≡ size_if there bits →
    FieldFits f → extra_at o f ≡ Some x → IsExtraOf bits there o f x
unfolding HoldsIn ReadsExtra
extra_whole bits false o f x size e h = in_nothing (ReadsExtra bits false o x) (no_extra bits o x) f e
extra_whole bits true o f x size e h =
    in_bits (ReadsExtra bits true o x) bits f size (λ raw below. reads_extra bits raw o x size below) e h
