-- Meaning: what the tables of notes stand for, each by the path before its keys, and what the whole text stands for, things
-- by their names; or the first fault in it, key by key. docs/NOTES.md has it in words.
use Rattle.std.specs.Prelude.{ℕ, ◌+◌, ◌-◌, ◌^◌, Bool, ◌||◌, List, [], ◌∷◌, ◌++◌, length, Result, Ok, codes, nat_lt}
use Rattle.toml.specs.Data.{Data, Items, no_items, item, Members}
use Rattle.note_types.specs.Limits.{point_limit}
use Rattle.note_types.specs.declared.fault.TomlFault.{TomlFault}
use Rattle.note_types.specs.declared.fault.TomlFault.TheVariants.{Range}
use Rattle.ebc_base.specs.Steps.{◌>>=◌, passes}
use Rattle.note_texts.specs.Keys.{number_at, text_at, optional_text_at, flag_at, pair_at, only_keys, row_prefix}
use Rattle.note_texts.specs.Lists.{list_at, texts_at, texts_beside_at, table_of, tables_at}
use Rattle.note_texts.specs.CellTexts.{field_of}
use Rattle.note_texts.specs.SlotTexts.{item_of, param_of, register_of}
use Rattle.note_texts.specs.TypeTexts.{type_of}
use Rattle.note_texts.specs.WantTexts.{result_of, want_param_of}
use Rattle.note_texts.specs.declared.want.ResultText.{ResultText}
use Rattle.note_draft.specs.declared.draft.ShapeDraft.{ShapeDraft}
use Rattle.note_draft.specs.declared.draft.StaticDraft.{StaticDraft}
use Rattle.note_draft.specs.declared.draft.ThunkDraft.{ThunkDraft}
use Rattle.note_draft.specs.declared.draft.FunctionDraft.{FunctionDraft}
use Rattle.note_draft.specs.declared.draft.PointDraft.{PointDraft}
use Rattle.note_draft.specs.declared.draft.SignatureDraft.{SignatureDraft}
use Rattle.note_draft.specs.declared.draft.SiteDraft.{SiteDraft}
use Rattle.note_draft.specs.declared.reading.CallLists.{CallLists}
use Rattle.note_draft.specs.declared.reading.CodeLists.{CodeLists}
use Rattle.note_draft.specs.declared.reading.DataLists.{DataLists}
use Rattle.note_draft.specs.declared.reading.DraftLists.{DraftLists}
use Rattle.note_draft.specs.declared.reading.Extent.{Extent}
use Rattle.note_draft.specs.declared.reading.Interface.{Interface}
use Rattle.note_draft.specs.declared.draft.NotesDraft.{NotesDraft}
use Rattle.ebc_base.specs.Tables.{is_named}
use Rattle.note_draft.specs.Names.{distinct}
use Rattle.ebc_base.specs.Names.{name_of}

-- the greatest place in an image
abbrev pub last_place : ℕ
last_place = 2 ^ 22 - 1

-- the greatest number of 32 bits
abbrev pub greatest_32 : ℕ
greatest_32 = 2 ^ 32 - 1

-- the greatest number of 64 bits, which limits a list that has no other limit
abbrev pub greatest_64 : ℕ
greatest_64 = 2 ^ 64 - 1

-- a table of the list `shape`
unfoldable pub shape_of : List ℕ → Members → Result ShapeDraft TomlFault
shape_of prefix table = do
  name ← text_at name_of prefix (codes "name") table
  size ← pair_at prefix (codes "size") greatest_32 table
  fields ← texts_at field_of prefix (codes "fields") 256 table
  _ ← only_keys prefix (codes "name" ∷ codes "size" ∷ codes "fields" ∷ []) table
  Ok (record { name = name; n = size.n; c = size.c; fields = fields })

-- a table of the list `static`
unfoldable pub static_of : List ℕ → Members → Result StaticDraft TomlFault
static_of prefix table = do
  place ← number_at prefix (codes "place") 0 last_place table
  shape ← text_at name_of prefix (codes "shape") table
  count ← number_at prefix (codes "count") 1 greatest_64 table
  _ ← only_keys prefix (codes "place" ∷ codes "shape" ∷ codes "count" ∷ []) table
  Ok (record { place = place; shape = shape; count = count })

-- a table of the list `thunk`
unfoldable pub thunk_of : List ℕ → Members → Result ThunkDraft TomlFault
thunk_of prefix table = do
  place ← number_at prefix (codes "place") 0 last_place table
  function ← text_at name_of prefix (codes "function") table
  _ ← only_keys prefix (codes "place" ∷ codes "function" ∷ []) table
  Ok (record { place = place; function = function })

-- the keys of a table of the list `function`
abbrev pub function_keys : List (List ℕ)
function_keys =
    codes "name" ∷ codes "place" ∷ codes "end" ∷ codes "level" ∷ codes "need" ∷ codes "locals" ∷ codes "params" ∷ codes "result" ∷ codes
    "enter" ∷ []

-- where a function's code lies, and how deep its calls and its stack go
unfoldable pub extent_of : List ℕ → Members → Result Extent TomlFault
extent_of prefix table = do
  place ← number_at prefix (codes "place") 0 last_place table
  end ← number_at prefix (codes "end") 0 (last_place + 1) table
  level ← number_at prefix (codes "level") 0 greatest_64 table
  need ← pair_at prefix (codes "need") greatest_64 table
  Ok (record { place = place; end = end; level = level; need = need })

-- what a function keeps, takes and gives
unfoldable pub interface_of : List ℕ → Members → Result Interface TomlFault
interface_of prefix table = do
  locals ← optional_text_at name_of prefix (codes "locals") table
  params ← texts_at param_of prefix (codes "params") 16 table
  result ← text_at type_of prefix (codes "result") table
  Ok (record { locals = locals; params = params; result = result })

-- whether a function is marked `enter`; its table may have no keys but a function's
unfoldable pub function_enter : List ℕ → Members → Result Bool TomlFault
function_enter prefix table = do
  enter ← flag_at prefix (codes "enter") table
  _ ← only_keys prefix function_keys table
  Ok enter

-- a table of the list `function`
unfoldable pub function_of : List ℕ → Members → Result FunctionDraft TomlFault
function_of prefix table = do
  name ← text_at name_of prefix (codes "name") table
  extent ← extent_of prefix table
  interface ← interface_of prefix table
  enter ← function_enter prefix table
  Ok (record {
    name = name;
    place = extent.place;
    end = extent.end;
    level = extent.level;
    need = extent.need;
    locals = interface.locals;
    params = interface.params;
    result = interface.result;
    enter = enter;
  })

-- the keys of a table of the list `point`
abbrev pub point_keys : List (List ℕ)
point_keys = codes "place" ∷ codes "regs" ∷ codes "stack" ∷ codes "written" ∷ codes "made" ∷ []

-- how many thunks are made at a point; its table may have no keys but a point's
unfoldable pub point_made : List ℕ → Members → Result ℕ TomlFault
point_made prefix table = do
  made ← number_at prefix (codes "made") 0 greatest_32 table
  _ ← only_keys prefix point_keys table
  Ok made

-- a table of the list `point`; of its stack, the locals don't count against the limit
unfoldable pub point_of : List ℕ → Members → Result PointDraft TomlFault
point_of prefix table = do
  place ← number_at prefix (codes "place") 0 last_place table
  regs ← texts_at register_of prefix (codes "regs") greatest_64 table
  stack ← texts_beside_at item_of prefix (codes "stack") 64 (codes "locals") table
  written ← texts_at name_of prefix (codes "written") greatest_64 table
  made ← point_made prefix table
  Ok (record { place = place; regs = regs; stack = stack; written = written; made = made })

-- whether a method is one of these, or they are fewer than 1024
abbrev pub has_room : List (List ℕ) → List ℕ → Bool
has_room methods method = is_named method methods || nat_lt (length methods) 1024

-- the method of a signature after others that name these methods: all signatures name at most 1024
unfoldable pub method_of : List (List ℕ) → List ℕ → Members → Result (List ℕ) TomlFault
method_of methods prefix table = do
  method ← text_at name_of prefix (codes "method") table
  _ ← passes (has_room methods method) (Range (prefix ++ codes "method"))
  Ok method

-- the result of a signature; its table may have no keys but a signature's
unfoldable pub signature_result : List ℕ → Members → Result ResultText TomlFault
signature_result prefix table = do
  result ← text_at result_of prefix (codes "result") table
  _ ← only_keys prefix (codes "name" ∷ codes "method" ∷ codes "params" ∷ codes "result" ∷ []) table
  Ok result

-- a table of the list `signature` after others that name these methods
unfoldable pub signature_of : List (List ℕ) → List ℕ → Members → Result SignatureDraft TomlFault
signature_of methods prefix table = do
  name ← text_at name_of prefix (codes "name") table
  method ← method_of methods prefix table
  params ← texts_at want_param_of prefix (codes "params") 16 table
  result ← signature_result prefix table
  Ok (record { name = name; method = method; params = params; result = result })

-- a table of the list `site`
unfoldable pub site_of : List ℕ → Members → Result SiteDraft TomlFault
site_of prefix table = do
  place ← number_at prefix (codes "place") 0 last_place table
  signature ← text_at name_of prefix (codes "signature") table
  _ ← only_keys prefix (codes "place" ∷ codes "signature" ∷ []) table
  Ok (record { place = place; signature = signature })

-- an item of the list of signatures at a path, after others that name these methods
abbrev pub signature_in : List (List ℕ) → List ℕ → ℕ → Data → Result SignatureDraft TomlFault
signature_in methods path i d = table_of path i d >>= signature_of methods (row_prefix path i)

-- the signatures of a list from the item of number i on, after signatures with these methods
unfoldable pub signatures_from : List (List ℕ) → List ℕ → ℕ → Items → Result (List SignatureDraft) TomlFault
signatures_from before path i no_items = Ok []
signatures_from before path i (item d ds) = do
  first ← signature_in (distinct before) path i d
  rest ← signatures_from (before ++ first.method ∷ []) path (i + 1) ds
  Ok (first ∷ rest)

-- the signatures of the list at the key `signature`, which may be left out
unfoldable pub signatures_at : List ℕ → Members → Result (List SignatureDraft) TomlFault
signatures_at prefix table = list_at prefix (codes "signature") greatest_32 table >>= signatures_from [] (prefix ++ codes "signature") 0

-- the keys of the whole text
abbrev pub draft_keys : List (List ℕ)
draft_keys =
    codes "version" ∷ codes "entry" ∷ codes "shape" ∷ codes "static" ∷ codes "thunk" ∷ codes "function" ∷ codes "point" ∷ codes "signature"
    ∷ codes "site" ∷ []

-- the lists of data: shapes, static objects and thunk cells
unfoldable pub data_lists : Members → Result DataLists TomlFault
data_lists table = do
  shape ← tables_at shape_of [] (codes "shape") 1024 table
  statics ← tables_at static_of [] (codes "static") greatest_32 table
  thunk ← tables_at thunk_of [] (codes "thunk") greatest_32 table
  Ok (record { shape = shape; statics = statics; thunk = thunk })

-- the lists of code, in notes of a version: functions and points
unfoldable pub code_lists : ℕ → Members → Result CodeLists TomlFault
code_lists version table = do
  function ← tables_at function_of [] (codes "function") 4096 table
  point ← tables_at point_of [] (codes "point") (point_limit version) table
  Ok (record { function = function; point = point })

-- the lists of native calls, signatures and sites; the text may have no keys but those of notes
unfoldable pub call_lists : Members → Result CallLists TomlFault
call_lists table = do
  signature ← signatures_at [] table
  site ← tables_at site_of [] (codes "site") greatest_32 table
  _ ← only_keys [] draft_keys table
  Ok (record { signature = signature; site = site })

-- all lists, in notes of a version
unfoldable pub draft_lists : ℕ → Members → Result DraftLists TomlFault
draft_lists version table = do
  things ← data_lists table
  code ← code_lists version table
  calls ← call_lists table
  Ok (record { things = things; code = code; calls = calls })

-- the whole text
unfoldable pub draft_of : Members → Result NotesDraft TomlFault
draft_of table = do
  version ← number_at [] (codes "version") 1 2 table
  entry ← text_at name_of [] (codes "entry") table
  lists ← draft_lists version table
  Ok (record {
    version = version;
    entry = entry;
    shape = lists.things.shape;
    statics = lists.things.statics;
    thunk = lists.things.thunk;
    function = lists.code.function;
    point = lists.code.point;
    signature = lists.calls.signature;
    site = lists.calls.site;
  })
