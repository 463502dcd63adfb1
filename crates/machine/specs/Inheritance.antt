-- The instructions that load templates and enter definitions of blocks, and the whole set. It assumes nothing.
use Rattle.std.specs.Prelude.{ℕ, suc, Bool, true, false, cond, List, [], ◌∷◌, length, Some, None, codes, Option, ◌==◌, nat_lt, slice_index, slice_set}
use Rattle.std.specs.Str.{bytes_eq}
use Rattle.instruction.specs.Program.{Instr}
use Rattle.hosts.specs.Answers.{text_test}
use Rattle.hosts.specs.declared.Unary.{Unary}
use Rattle.hosts.specs.declared.Binary.{Binary}
use Rattle.machine.specs.declared.fault.Fault.TheVariants.{TemplateNotFound, BadExtend, EighthLoad, UnknownBlock, RequiredBlock, BadSuper}
use Rattle.machine.specs.Outline.{Shape, Ref, block as a_block, template, required_at, with_blocks, row_number, defs_at, def_at}
use Rattle.machine.specs.State.{Slots, Act, Caller, block, Capture, dropped, kept, Body, Control, most_loads, with_slots, past, first_slots}
use Rattle.machine.specs.Parts.{Part, does, bind, fails, pop_plain, read, spell, begin_capture, push_frame}
use Rattle.machine.specs.Loops.{frame, capture_if}
use Rattle.machine.specs.Instructions as by

-- What a run is at: plain; the parent of its main code pending; or in a capture whose output is dropped.
pub data Phase : Type 0 where
  plain : Phase
  pending : Phase
  discarding : Phase

abbrev pub phase_in : List Capture → Phase
phase_in [] = plain
phase_in (dropped ∷ cs) = discarding
phase_in (kept t ∷ cs) = plain

abbrev pub phase_by : Option ℕ → List Capture → Phase
phase_by (Some n) cs = pending
phase_by None cs = phase_in cs

abbrev pub phase : Control → Body → Phase
phase c b = phase_by c.parent b.captures

abbrev pub goes_on : Control → Control
goes_on c = with_slots c (past c.act.slots)

-- the definition d, at this depth of the row r; the caller waits at its next instruction
abbrev pub entered : Control → ℕ → ℕ → Ref → Body → Control
entered c r k d b = record {
  act = record { at = a_block d; base = length b.operands; row = Some r; slots = first_slots };
  rows = c.rows;
  depths = slice_set c.depths r k;
  loaded = c.loaded;
  parent = c.parent;
}

abbrev pub caller : Control → Bool → ℕ → Caller
caller c captured r = record { act = (goes_on c).act; captured = captured; depth = slice_index c.depths r }

abbrev pub enter : ℕ → Bool → ℕ → ℕ → Ref → Control → Body → Part Control
enter limit captured r k d c b =
    bind (push_frame limit (frame (block (caller c captured r))) b) (λ x b. bind (capture_if captured b)
    (λ x b. does (entered c r k d b) b))

-- CallBlock: the first definition of the row, unless it stands there alone and is required

abbrev pub call_first : List Shape → ℕ → List Ref → ℕ → Control → Body → Part Control
call_first o limit [] r c b = fails UnknownBlock b
call_first o limit (d ∷ []) r c b = cond (required_at o d) (fails RequiredBlock b) (enter limit false r 0 d c b)
call_first o limit (d ∷ e ∷ ds) r c b = enter limit false r 0 d c b

abbrev pub call_block_in : Phase → List Shape → ℕ → List ℕ → Control → Body → Part Control
call_block_in plain o limit x c b = call_first o limit (defs_at c.rows (row_number x c.rows)) (row_number x c.rows) c b
call_block_in pending o limit x c b = does (goes_on c) b
call_block_in discarding o limit x c b = does (goes_on c) b

unfoldable pub call_block : List Shape → ℕ → List ℕ → Control → Body → Part Control
call_block o limit x c b = call_block_in (phase c b) o limit x c b

-- Super, by either instruction: the next definition of the row of the block that runs

abbrev pub super_by : Option Ref → ℕ → Bool → ℕ → ℕ → Control → Body → Part Control
super_by None limit captured r k c b = fails BadSuper b
super_by (Some d) limit captured r k c b = enter limit captured r k d c b

abbrev pub super_in : Option ℕ → ℕ → Bool → Control → Body → Part Control
super_in None limit captured c b = fails BadSuper b
super_in (Some r) limit captured c b =
    super_by (def_at (defs_at c.rows r) (suc (slice_index c.depths r))) limit captured r (suc (slice_index c.depths r)) c b

unfoldable pub perform_super : ℕ → Bool → Control → Body → Part Control
perform_super limit captured c b = super_in c.act.row limit captured c b

-- LoadBlocks

abbrev pub among : List ℕ → List (List ℕ) → Bool
among x [] = false
among x (y ∷ ys) = cond (bytes_eq y x) true (among x ys)

abbrev pub loading : List Shape → ℕ → List ℕ → Control → Control
loading o n x c = record {
  act = (goes_on c).act;
  rows = with_blocks o n c.rows;
  depths = c.depths;
  loaded = x ∷ c.loaded;
  parent = Some n;
}

abbrev pub load_found : List Shape → Option ℕ → List ℕ → Control → Body → Part Control
load_found o None x c b = fails TemplateNotFound b
load_found o (Some n) x c b =
    cond (nat_lt (length c.loaded) most_loads)
    (bind (begin_capture dropped b) (λ y b. does (loading o n x c) b))
    (fails EighthLoad b)

abbrev pub load_name : List Shape → List ℕ → Control → Body → Part Control
load_name o x c b = cond (among x c.loaded) (fails BadExtend b) (load_found o (template o x) x c b)

abbrev pub load_text : List Shape → ℕ → Bool → Control → Body → Part Control
load_text o k false c b = fails BadExtend b
load_text o k true c b = bind (spell k b) (λ x b. load_name o x c b)

abbrev pub load_in : Phase → List Shape → ℕ → Control → Body → Part Control
load_in pending o k c b = fails BadExtend b
load_in plain o k c b = bind (read (λ m. text_test m k) b) (λ t b. load_text o k t c b)
load_in discarding o k c b = bind (read (λ m. text_test m k) b) (λ t b. load_text o k t c b)

unfoldable pub load_blocks : List Shape → Control → Body → Part Control
load_blocks o c b = bind (pop_plain c.act.base b) (λ k b. load_in (phase c b) o k c b)

-- the instruction stays in its code
abbrev pub stays : (Act → Body → Part Slots) → Control → Body → Part Control
stays f c b = bind (f c.act b) (λ s b. does (with_slots c s) b)

abbrev pub call_super : ℕ → ℕ → Control → Body → Part Control
call_super limit n c b = cond (n == 0) (perform_super limit true c b) (fails BadSuper b)

-- Every instruction. A run has a limit for its frames.
unfoldable pub execute : List Shape → ℕ → Instr → Control → Body → Part Control
execute o l (Instr.emit_raw t) c b = stays (by.emit_raw t) c b
execute o l (Instr.store_local x) c b = stays (by.store_local x) c b
execute o l (Instr.lookup x) c b = stays (by.lookup x) c b
execute o l (Instr.get_attr x) c b = stays (by.get_attr x) c b
execute o l Instr.get_item c b = stays by.get_item c b
execute o l (Instr.load_const k) c b = stays (by.load_const k) c b
execute o l (Instr.build_list n) c b = stays (by.build_list n) c b
execute o l Instr.add c b = stays (by.operate Binary.Add) c b
execute o l Instr.sub c b = stays (by.operate Binary.Sub) c b
execute o l Instr.mul c b = stays (by.operate Binary.Mul) c b
execute o l Instr.div c b = stays (by.operate Binary.Div) c b
execute o l Instr.int_div c b = stays (by.operate Binary.IntDiv) c b
execute o l Instr.rem c b = stays (by.operate Binary.Rem) c b
execute o l Instr.pow c b = stays (by.operate Binary.Pow) c b
execute o l Instr.neg c b = stays (by.operate_on_one Unary.Neg) c b
execute o l Instr.eq c b = stays (by.operate Binary.Eq) c b
execute o l Instr.ne c b = stays (by.operate Binary.Ne) c b
execute o l Instr.gt c b = stays (by.operate Binary.Gt) c b
execute o l Instr.gte c b = stays (by.operate Binary.Gte) c b
execute o l Instr.lt c b = stays (by.operate Binary.Lt) c b
execute o l Instr.lte c b = stays (by.operate Binary.Lte) c b
execute o l Instr.not c b = stays (by.operate_on_one Unary.Not) c b
execute o l Instr.string_concat c b = stays (by.operate Binary.StringConcat) c b
execute o l Instr.«in» c b = stays (by.operate Binary.In) c b
execute o l (Instr.apply_filter x n i) c b = stays (by.apply_filter x n i) c b
execute o l (Instr.perform_test x n i) c b = stays (by.perform_test x n i) c b
execute o l Instr.emit c b = stays by.emit c b
execute o l (Instr.push_loop f) c b = stays (by.push_loop l f) c b
execute o l Instr.push_with c b = stays (by.push_with l) c b
execute o l (Instr.iterate t) c b = stays (by.iterate t) c b
execute o l Instr.push_did_not_iterate c b = stays by.push_did_not_iterate c b
execute o l Instr.pop_frame c b = stays by.pop_frame c b
execute o l Instr.pop_loop_frame c b = stays by.pop_loop_frame c b
execute o l (Instr.jump t) c b = stays (by.jump t) c b
execute o l (Instr.jump_if_false t) c b = stays (by.jump_if_false t) c b
execute o l (Instr.jump_if_false_or_pop t) c b = stays (by.jump_or_pop false t) c b
execute o l (Instr.jump_if_true_or_pop t) c b = stays (by.jump_or_pop true t) c b
execute o l (Instr.begin_capture m) c b = stays (by.start_capture m) c b
execute o l Instr.end_capture c b = stays by.finish_capture c b
execute o l (Instr.call_function x n) c b = cond (bytes_eq x (codes "super")) (call_super l n c b) (stays (by.call_function x n) c b)
execute o l Instr.dup_top c b = stays by.dup_top c b
execute o l Instr.discard_top c b = stays by.discard_top c b
execute o l Instr.fast_super c b = perform_super l false c b
execute o l Instr.fast_recurse c b = stays by.fast_recurse c b
execute o l Instr.swap c b = stays by.swap c b
execute o l (Instr.call_block x) c b = call_block o l x c b
execute o l Instr.load_blocks c b = load_blocks o c b
