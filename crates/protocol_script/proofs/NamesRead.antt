-- The functions and the methods of a draft that was read have names that texts can have.
use Rattle.protocol_script.proofs.Common.{◌≡◌, ℕ, ◌+◌, List, [], ◌∷◌, ◌++◌, length, IfOk, codes, Each, IsName, row_prefix, draft_of}
use Rattle.protocol_script.proofs.Common.{each_none, each_more, ok_then, ok_next}
use Rattle.std.specs.Prelude.{IfSome}
use Rattle.toml.specs.Data.{Items, no_items, item, Members, as_str}
use Rattle.ebc_base.specs.{Steps.or_else, Steps.passes, Names.is_name, Names.name_of}
use Rattle.note_types.specs.declared.fault.TomlFault.TheVariants.{Kind, Range}
use Rattle.note_types.specs.Limits.{point_limit}
use Rattle.note_texts.specs.{Keys.field, Keys.number_at, Keys.only_keys, Keys.text_at, Keys.text_of, Lists.count, Lists.each, Lists.list_at}
use Rattle.note_texts.specs.{Lists.row_of, Lists.rows_of, Lists.table_of, Lists.tables_at, Lists.texts_at, WantTexts.want_param_of}
use Rattle.note_draft.specs.declared.draft.{FunctionDraft.FunctionDraft, NotesDraft.NotesDraft, SignatureDraft.SignatureDraft}
use Rattle.note_draft.specs.declared.reading.{CallLists.CallLists, CodeLists.CodeLists, DraftLists.DraftLists}
use Rattle.note_draft.specs.Drafts.{call_lists, code_lists, data_lists, draft_keys, draft_lists, extent_of, function_enter, function_of}
use Rattle.note_draft.specs.Drafts.{greatest_32, has_room, interface_of, method_of, point_of, signature_in, signature_of, signature_result}
use Rattle.note_draft.specs.{Drafts.signatures_at, Drafts.signatures_from, Drafts.site_of, Names.distinct}
use Rattle.type_notes.proofs.{ListBounds.each_read, Outcomes.some_if}
use Rattle.ebc_base.proofs.Given.{ok_some, ok_weaken}

abbrev pub IsNamedFunction : FunctionDraft → Type 0
IsNamedFunction f = IsName f.name

abbrev pub HasNamedMethod : SignatureDraft → Type 0
HasNamedMethod s = IsName s.method

-- ---- names

name_is : (s : List ℕ) → IfSome (name_of s) IsName
name_is s = some_if IsName (is_name s) s (λ e. e)

name_read : (prefix key : List ℕ) (table : Members) → IfOk (text_at name_of prefix key table) IsName
unfolding text_at
name_read prefix key table =
    ok_next IsName (field prefix key table) (text_of name_of (prefix ++ key))
    (λ d. ok_next IsName (or_else (Kind (prefix ++ key)) (as_str d)) (λ s. or_else (Range (prefix ++ key)) (name_of s))
    (λ s. ok_some IsName (Range (prefix ++ key)) (name_of s) (name_is s)))

-- ---- functions

function_named : (prefix : List ℕ) (table : Members) → IfOk (function_of prefix table) IsNamedFunction
unfolding function_of
function_named prefix table =
    ok_then IsName IsNamedFunction (text_at name_of prefix (codes "name") table) _ (name_read prefix (codes "name") table)
    (λ name is. ok_next IsNamedFunction (extent_of prefix table) _
    (λ extent. ok_next IsNamedFunction (interface_of prefix table) _
    (λ interface. ok_next IsNamedFunction (function_enter prefix table) _ (λ enter. is))))

functions_named : (version : ℕ) (table : Members)
    → IfOk (code_lists version table) (λ (code : CodeLists). Each IsNamedFunction code.function)
unfolding code_lists tables_at rows_of
functions_named version table =
    let path = [] ++ codes "function" in
    let P : CodeLists → Type 0 = λ code. Each IsNamedFunction code.function in
    ok_then (Each IsNamedFunction) P (tables_at function_of [] (codes "function") 4096 table) _
    (ok_next (Each IsNamedFunction) (list_at [] (codes "function") 4096 table) (rows_of function_of path)
    (λ ds. ok_weaken (λ fs. (length fs ≡ count ds) × Each IsNamedFunction fs) (Each IsNamedFunction) (each (row_of function_of path) 0 ds)
    (each_read IsNamedFunction (row_of function_of path) ds 0 (λ j d. ok_next IsNamedFunction (table_of path j d)
    (function_of (row_prefix path j)) (function_named (row_prefix path j))))
    (λ fs h. h.1)))
    (λ functions are. ok_next P (tables_at point_of [] (codes "point") (point_limit version) table) _ (λ points. are))

-- ---- methods

method_is : (methods : List (List ℕ)) (prefix : List ℕ) (table : Members) → IfOk (method_of methods prefix table) IsName
unfolding method_of
method_is methods prefix table =
    ok_then IsName IsName (text_at name_of prefix (codes "method") table) _ (name_read prefix (codes "method") table)
    (λ method is. ok_next IsName (passes (has_room methods method) (Range (prefix ++ codes "method"))) _ (λ _. is))

method_named : (methods : List (List ℕ)) (prefix : List ℕ) (table : Members) → IfOk (signature_of methods prefix table) HasNamedMethod
unfolding signature_of
method_named methods prefix table =
    ok_next HasNamedMethod (text_at name_of prefix (codes "name") table) _
    (λ name. ok_then IsName HasNamedMethod (method_of methods prefix table) _ (method_is methods prefix table)
    (λ method is. ok_next HasNamedMethod (texts_at want_param_of prefix (codes "params") 16 table) _
    (λ params. ok_next HasNamedMethod (signature_result prefix table) _ (λ result. is))))

methods_from : (before : List (List ℕ)) (path : List ℕ) (i : ℕ) (ds : Items) → IfOk (signatures_from before path i ds) (Each HasNamedMethod)
unfolding signatures_from
methods_from before path i no_items = each_none HasNamedMethod
methods_from before path i (item d ds) =
    ok_then HasNamedMethod (Each HasNamedMethod) (signature_in (distinct before) path i d) _
    (ok_next HasNamedMethod (table_of path i d) (signature_of (distinct before) (row_prefix path i))
    (method_named (distinct before) (row_prefix path i)))
    (λ first is. ok_then (Each HasNamedMethod) (Each HasNamedMethod) (signatures_from (before ++ first.method ∷ []) path (i + 1) ds) _
    (methods_from (before ++ first.method ∷ []) path (i + 1) ds)
    (λ rest are. each_more HasNamedMethod first rest is are))

methods_named : (table : Members) → IfOk (call_lists table) (λ (calls : CallLists). Each HasNamedMethod calls.signature)
unfolding call_lists signatures_at
methods_named table =
    let P : CallLists → Type 0 = λ calls. Each HasNamedMethod calls.signature in
    ok_then (Each HasNamedMethod) P (signatures_at [] table) _
    (ok_next (Each HasNamedMethod) (list_at [] (codes "signature") greatest_32 table) (signatures_from [] ([] ++ codes "signature") 0)
    (λ ds. methods_from [] ([] ++ codes "signature") 0 ds))
    (λ signatures are. ok_next P (tables_at site_of [] (codes "site") greatest_32 table) _
    (λ sites. ok_next P (only_keys [] draft_keys table) _ (λ _. are)))

-- ---- the draft

pub record IsNamed (d : NotesDraft) : Type 0 where
  pub functions : Each IsNamedFunction d.function
  pub methods : Each HasNamedMethod d.signature

record AreNamed (lists : DraftLists) : Type 0 where
  pub functions : Each IsNamedFunction lists.code.function
  pub methods : Each HasNamedMethod lists.calls.signature

lists_named : (version : ℕ) (table : Members) → IfOk (draft_lists version table) AreNamed
unfolding draft_lists
lists_named version table =
    ok_next AreNamed (data_lists table) _
    (λ things. ok_then (λ (code : CodeLists). Each IsNamedFunction code.function) AreNamed (code_lists version table) _
    (functions_named version table)
    (λ code named. ok_then (λ (calls : CallLists). Each HasNamedMethod calls.signature) AreNamed (call_lists table) _ (methods_named table)
    (λ calls are. record { functions = named; methods = are })))

pub draft_named : (table : Members) → IfOk (draft_of table) IsNamed
unfolding draft_of
draft_named table =
    ok_next IsNamed (number_at [] (codes "version") 1 2 table) _
    (λ version. ok_next IsNamed (text_at name_of [] (codes "entry") table) _
    (λ entry. ok_then AreNamed IsNamed (draft_lists version table) _ (lists_named version table)
    (λ lists named. record { functions = named.functions; methods = named.methods })))
