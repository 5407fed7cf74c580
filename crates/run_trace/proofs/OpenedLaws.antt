-- What the frames of a runner's host and its machine hold is what the state of its run holds.
use Rattle.std.proofs.Common.{◌≡◌, ℕ, zero, suc, ◌+◌, ◌-◌, ◌%◌, ◌^◌, ◌<◌, ◌≤◌, Bool, false, true, List, [], ◌∷◌, ◌++◌, drop, length, take}
use Rattle.std.proofs.Common.{Option, Some, None, refl, sym, ap, ◌∙◌, append_assoc, arith, cond, get_or, if◌then◌else◌, reverse}
use Rattle.std.specs.Prelude.{nat_eq, nat_le}
use Rattle.std.specs.List.{filter, flat_map}
use Rattle.std.proofs.lemmas.Bool.{eq-eqb, ne_eqb}
use Rattle.std.proofs.lemmas.List.{append-nil, drop_all, drop_more, flat_map_more, get_or-map, get_or-reverse, length-drop}
use Rattle.std.proofs.lemmas.List.{length-reverse, take_all, take_more}
use Rattle.std.proofs.lemmas.List.Elements.{filter-append}
use Rattle.std.proofs.lemmas.Option.{slice_get-get_or}
use Rattle.ebc_width.specs.Bytes.{little_endian}
use Rattle.ebc_width.specs.Ranges.{Range}
use Rattle.callex_thunk.specs.HostFrames.{call_of, saved_of}
use Rattle.callex_thunk.specs.declared.TheConstants.{NO_ENTRY}
use Rattle.frame_stack.specs.Frames.{frame_at, from_bottom}
use Rattle.frame_stack.specs.declared.Frame.{Frame}
use Rattle.host_model.specs.Progress.{Accepted, NoCall}
use Rattle.host_model.specs.RunState.{RunState, SavedFrame}
use Rattle.note_types.specs.declared.notes.Notes.{Notes}
use Rattle.note_types.specs.declared.script.Script.{Script}
use Rattle.step_texts.specs.StateTexts.{back_line, call_line, function_line}
use Rattle.step_texts.specs.declared.state.OpenCall.{OpenCall}
use Rattle.step_texts.specs.declared.state.OpenFunction.{OpenFunction}
use Rattle.step_texts.specs.declared.step.Change.{Change}
use Rattle.twin_run.specs.Runner.{hosts_of}
use Rattle.twin_run.specs.Watching.{has_c}
use Rattle.twin_run.specs.declared.runner.AskedCall.{AskedCall}
use Rattle.twin_run.proofs.BoundLaws.{hosts_count}
use Rattle.run_trace.specs.Addresses.{held}
use Rattle.run_trace.specs.States.{accepted_of, back_lines, frame_lines, frames_lines, holdings_of, open_of, opened_lines}
use Rattle.run_trace.specs.States.{registers_held, saved_with, under_way}
use Rattle.run_trace.specs.declared.calls.InnerCall.{InnerCall}

-- ---- the machine

pub holdings-are : (notes : Notes) (s : RunState) (objects : List Range) (registers : List ℕ) (ip : ℕ) (holds : List (Option Change))
    (next : Change) (c : Bool) → objects ≡ s.machine.objects → registers ≡ s.machine.registers → ip ≡ s.machine.ip
    → holds ≡ registers_held notes objects registers → next ≡ held notes objects ip → c ≡ has_c s.machine
    → record { registers = holds; ip = next; has_c = c } ≡ holdings_of notes s
unfolding holdings_of
holdings-are notes s objects registers ip holds next c lie are at held_are next_is flag = λ i. record {
  registers = (held_are ∙ (λ j. registers_held notes (lie j) (are j))) i;
  ip = (next_is ∙ (λ j. held notes (lie j) (at j))) i;
  has_c = flag i;
}

-- ---- the fields of a frame, where they lie in its bytes

pub ip-lies : (b : ℕ → ℕ) (a : ℕ) (f : Frame) → frame_at b a ≡ f → little_endian b (a + 64) 8 ≡ f.ip
unfolding frame_at
ip-lies b a f is = ap (λ (g : Frame). g.ip) is

pub entry-lies : (b : ℕ → ℕ) (a : ℕ) (f : Frame) → frame_at b a ≡ f → little_endian b (a + 80) 4 ≡ f.entry
unfolding frame_at
entry-lies b a f is = ap (λ (g : Frame). g.entry) is

pub function-lies : (b : ℕ → ℕ) (a : ℕ) (f : Frame) → frame_at b a ≡ f → little_endian b (a + 88) 4 ≡ f.func
unfolding frame_at
function-lies b a f is = ap (λ (g : Frame). g.func) is

-- ---- the native call above a frame

pub none-under-way : (script : Script) (f : Frame) (entry : ℕ) → f.entry ≡ entry → entry ≡ NO_ENTRY
    → None ≡ under_way script (saved_of f).call
unfolding saved_of call_of
none-under-way script f entry same none =
    ap (λ b. under_way script (if b then NoCall else Accepted f.entry f.callback (take f.count f.slots)))
    (sym (eq-eqb f.entry NO_ENTRY (same ∙ none)))

pub accepted-under-way : (script : Script) (f : Frame) (entry : ℕ) (call : OpenCall) → f.entry ≡ entry → (entry ≡ NO_ENTRY → ⊥)
    → call ≡ accepted_of script entry → Some call ≡ under_way script (saved_of f).call
unfolding saved_of call_of
accepted-under-way script f entry call same some is =
    ap Some (is ∙ ap (accepted_of script) (sym same))
    ∙ ap (λ b. under_way script (if b then NoCall else Accepted f.entry f.callback (take f.count f.slots)))
    (sym (ne_eqb f.entry NO_ENTRY (λ none. some (sym same ∙ none))))

-- ---- the function of a frame

pub open-is : (notes : Notes) (objects : List Range) (f : Frame) (func ip number : ℕ) (notified : Bool) (back : Change)
    → func ≡ f.func → ip ≡ f.ip → number ≡ func % 2 ^ 31 → notified ≡ nat_le (2 ^ 31) func → back ≡ held notes objects ip
    → record { function = number; notified = notified; back = back } ≡ open_of notes objects (saved_of f)
unfolding saved_of
open-is notes objects f func ip number notified back is at numbered known goes_on = λ i. record {
  function = (numbered ∙ ap (λ n. n % 2 ^ 31) is) i;
  notified = (known ∙ ap (nat_le (2 ^ 31)) is) i;
  back = (goes_on ∙ ap (held notes objects) at) i;
}

-- the function of a frame doesn't depend on whether a native call is asked for above it
open-with : (notes : Notes) (objects : List Range) (asked : Option AskedCall) (f : Frame)
    → open_of notes objects (saved_of f) ≡ open_of notes objects (saved_with asked f)
open-with notes objects None f = refl
open-with notes objects (Some a) f = refl

-- ---- the CALLs in a function, from the last one on

pub backs-more : {A : Type 0} (line : A → List ℕ) (p : A → Bool) (xs : List A) (above : ℕ) (d : A) (old before after : List ℕ)
    → above < length xs → before ≡ old ++ flat_map line (filter p (take above (reverse xs)))
    → (p (get_or xs (length xs - 1 - above) d) ≡ true → after ≡ before ++ line (get_or xs (length xs - 1 - above) d))
    → (p (get_or xs (length xs - 1 - above) d) ≡ false → after ≡ before)
    → after ≡ old ++ flat_map line (filter p (take (above + 1) (reverse xs)))
backs-more {A = A} line p xs above d old before after less was put skips =
    let x : A = get_or xs (length xs - 1 - above) d in
    let long = length-reverse xs in
    let within : above < length (reverse xs) = omega (arith, less, long) in
    let chosen : filter p (take (above + 1) (reverse xs)) ≡ filter p (take above (reverse xs)) ++ filter p (x ∷ []) =
    ap (filter p) (take_more (reverse xs) above d within ∙ ap (λ y. take above (reverse xs) ++ y ∷ []) (get_or-reverse xs above d less))
    ∙ filter-append p (take above (reverse xs)) (x ∷ []) in
    go x (p x) refl put skips chosen
  where
    go : (x : A) (b : Bool) → p x ≡ b → (p x ≡ true → after ≡ before ++ line x) → (p x ≡ false → after ≡ before)
        → filter p (take (above + 1) (reverse xs)) ≡ filter p (take above (reverse xs)) ++ cond (p x) (x ∷ []) []
        → after ≡ old ++ flat_map line (filter p (take (above + 1) (reverse xs)))
    go x true does put skips chosen =
        put does ∙ ap (λ t. t ++ line x) was ∙ flat_map_more line old (filter p (take above (reverse xs))) x
        ∙ ap (λ t. old ++ flat_map line t) (sym (chosen ∙ ap (λ b. filter p (take above (reverse xs)) ++ cond b (x ∷ []) []) does))
    go x false isnt put skips chosen =
        skips isnt ∙ was ∙ ap (λ t. old ++ flat_map line t)
        (sym (chosen ∙ ap (λ b. filter p (take above (reverse xs)) ++ cond b (x ∷ []) []) isnt
        ∙ append-nil (filter p (take above (reverse xs)))))

pub backs-are : (notes : Notes) (objects : List Range) (calls : List InnerCall) (depth above : ℕ) (old after : List ℕ)
    → length calls ≤ above
    → after ≡ old ++ flat_map (λ (c : InnerCall). back_line notes (held notes objects c.back))
    (filter (λ c. nat_eq c.entered depth) (take above (reverse calls)))
    → after ≡ old ++ back_lines notes objects calls depth
unfolding back_lines
backs-are notes objects calls depth above old after past is =
    let long = length-reverse calls in
    is ∙ ap (λ cs. old ++ flat_map (λ (c : InnerCall). back_line notes (held notes objects c.back))
    (filter (λ c. nat_eq c.entered depth) cs))
    (take_all above (reverse calls) (omega (arith, past, long)))

-- ---- one frame after the other, from the top one on

-- a native call is asked for above the top frame alone
host-at : (asked here : Option AskedCall) (g : Frame) (fs : List Frame) (above : ℕ) → above < length (g ∷ fs)
    → (above ≡ 0 → here ≡ asked) → (0 < above → here ≡ None)
    → get_or (hosts_of asked (g ∷ fs)) above (saved_of g) ≡ saved_with here (get_or (g ∷ fs) above g)
host-at None here g fs zero less top lower = ap (λ a. saved_with a g) (sym (top refl))
host-at None here g fs (suc k) less top lower =
    get_or-map saved_of fs k g (saved_of g) (omega (arith, less)) ∙ ap (λ a. saved_with a (get_or fs k g)) (sym (lower (omega arith)))
host-at (Some a) here g fs zero less top lower = ap (λ b. saved_with b g) (sym (top refl))
host-at (Some a) here g fs (suc k) less top lower =
    get_or-map saved_of fs k g (saved_of g) (omega (arith, less)) ∙ ap (λ b. saved_with b (get_or fs k g)) (sym (lower (omega arith)))

-- the frame that has so many above it, by those below it
frame-below : (g : Frame) (fs : List Frame) (above below : ℕ) → above < length (g ∷ fs) → below + 1 + above ≡ length (g ∷ fs)
    → from_bottom (g ∷ fs) below ≡ Some (get_or (g ∷ fs) above g)
unfolding from_bottom
frame-below g fs above below less is =
    let many = length-reverse (g ∷ fs) in
    let within : below < length (g ∷ fs) = omega (arith, is) in
    let there : length (g ∷ fs) - 1 - below ≡ above = omega (arith, is) in
    slice_get-get_or (reverse (g ∷ fs)) below g (omega (arith, many, within))
    ∙ ap Some (get_or-reverse (g ∷ fs) below g within ∙ ap (λ k. get_or (g ∷ fs) k g) there)

-- one frame more
pub opened-more : (notes : Notes) (script : Script) (objects : List Range) (calls : List InnerCall) (asked here : Option AskedCall)
    (frames : List Frame) (depth above below : ℕ) (call : Option OpenCall) (function : OpenFunction)
    (old before with_call with_backs after : List ℕ)
    → depth ≡ length frames → above < depth → below + 1 + above ≡ depth → (above ≡ 0 → here ≡ asked)
    → (0 < above → here ≡ None)
    → ((f : Frame) → from_bottom frames below ≡ Some f → call ≡ under_way script (saved_with here f).call)
    → ((f : Frame) → from_bottom frames below ≡ Some f → function ≡ open_of notes objects (saved_of f))
    → before ++ frames_lines notes script objects calls (drop above (hosts_of asked frames))
    ≡ old ++ frames_lines notes script objects calls (hosts_of asked frames)
    → with_call ≡ before ++ call_line notes call → with_backs ≡ with_call ++ back_lines notes objects calls (depth - above)
    → after ≡ with_backs ++ function_line notes function
    → after ++ frames_lines notes script objects calls (drop (above + 1) (hosts_of asked frames))
    ≡ old ++ frames_lines notes script objects calls (hosts_of asked frames)
unfolding frames_lines frame_lines
opened-more notes script objects calls asked here [] depth above below call function old before with_call with_backs after many less is
    top lower calls_is opened was first second third = absurd (omega (arith, many, less))
opened-more notes script objects calls asked here (g ∷ fs) depth above below call function old before with_call with_backs after many
    less is top lower calls_is opened was first second third =
    let hosts : List SavedFrame = hosts_of asked (g ∷ fs) in
    let f : Frame = get_or (g ∷ fs) above g in
    let within : above < length (g ∷ fs) = omega (arith, many, less) in
    let same = hosts_count asked (g ∷ fs) in
    let inside : above < length hosts = omega (arith, within, same) in
    let found = frame-below g fs above below within (is ∙ many) in
    let host : SavedFrame = get_or hosts above (saved_of g) in
    let rest : List SavedFrame = drop (above + 1) hosts in
    let host-is : host ≡ saved_with here f = host-at asked here g fs above within top lower in
    let next : drop above hosts ≡ host ∷ rest = drop_more hosts above (saved_of g) inside in
    let long : depth - above ≡ length (host ∷ rest) =
    ap (λ n. n - above) (many ∙ sym same) ∙ sym (length-drop above hosts) ∙ ap length next in
    let call-is : call ≡ under_way script host.call = calls_is f found ∙ ap (λ (s : SavedFrame). under_way script s.call) (sym host-is) in
    let function-is : function ≡ open_of notes objects host =
    opened f found ∙ open-with notes objects here f ∙ ap (open_of notes objects) (sym host-is) in
    let a : List ℕ = call_line notes (under_way script host.call) in
    let b : List ℕ = back_lines notes objects calls (length (host ∷ rest)) in
    let c : List ℕ = function_line notes (open_of notes objects host) in
    let all : List ℕ = frames_lines notes script objects calls rest in
    let put : after ≡ before ++ (a ++ (b ++ c)) =
    third ∙ ap (λ t. t ++ function_line notes function) (second ∙ ap (λ t. t ++ back_lines notes objects calls (depth - above)) first)
    ∙ (λ i. ((before ++ call_line notes (call-is i)) ++ back_lines notes objects calls (long i)) ++ function_line notes (function-is i))
    ∙ append_assoc (before ++ a) b c ∙ append_assoc before a (b ++ c) in
    ap (λ t. t ++ all) put ∙ append_assoc before (a ++ (b ++ c)) all
    ∙ ap (λ l. before ++ frames_lines notes script objects calls l) (sym next) ∙ was

pub opened-all : (notes : Notes) (script : Script) (s : RunState) (objects : List Range) (calls : List InnerCall) (asked : Option AskedCall)
    (frames : List Frame) (depth above : ℕ) (old after : List ℕ) → depth ≡ length frames → depth ≤ above → objects ≡ s.machine.objects
    → hosts_of asked frames ≡ s.hosts
    → after ++ frames_lines notes script objects calls (drop above (hosts_of asked frames))
    ≡ old ++ frames_lines notes script objects calls (hosts_of asked frames)
    → after ≡ old ++ opened_lines notes script calls s
unfolding frames_lines
opened-all notes script s objects calls asked frames depth above old after many past lie are was =
    let same = hosts_count asked frames in
    sym (append-nil after)
    ∙ ap (λ hs. after ++ frames_lines notes script objects calls hs)
    (sym (drop_all above (hosts_of asked frames) (omega (arith, many, past, same))))
    ∙ was ∙ (λ i. old ++ frames_lines notes script (lie i) calls (are i))
