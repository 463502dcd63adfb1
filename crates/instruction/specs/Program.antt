-- A decoded program as plain data: names and texts are lists of bytes, and a constant is what it holds.
use Rattle.std.specs.Prelude.{ℕ, Bool, List, ℤ}

pub data Const : Type 0 where
  undefined : Const
  boolean : Bool → Const
  integer : ℤ → Const
  string : List ℕ → Const

-- where captured output goes: kept as text, or dropped
pub data Mode : Type 0 where
  keep : Mode
  discard : Mode

-- the instructions, named as in the template engine that this machine is taken from
pub data Instr : Type 0 where
  emit_raw : List ℕ → Instr
  store_local : List ℕ → Instr
  lookup : List ℕ → Instr
  get_attr : List ℕ → Instr
  get_item : Instr
  load_const : Const → Instr
  build_list : ℕ → Instr
  add : Instr
  sub : Instr
  mul : Instr
  div : Instr
  int_div : Instr
  rem : Instr
  pow : Instr
  neg : Instr
  eq : Instr
  ne : Instr
  gt : Instr
  gte : Instr
  lt : Instr
  lte : Instr
  not : Instr
  string_concat : Instr
  «in» : Instr
  apply_filter : List ℕ → ℕ → ℕ → Instr
  perform_test : List ℕ → ℕ → ℕ → Instr
  emit : Instr
  push_loop : ℕ → Instr
  push_with : Instr
  iterate : ℕ → Instr
  push_did_not_iterate : Instr
  pop_frame : Instr
  pop_loop_frame : Instr
  jump : ℕ → Instr
  jump_if_false : ℕ → Instr
  jump_if_false_or_pop : ℕ → Instr
  jump_if_true_or_pop : ℕ → Instr
  begin_capture : Mode → Instr
  end_capture : Instr
  call_function : List ℕ → ℕ → Instr
  dup_top : Instr
  discard_top : Instr
  fast_super : Instr
  fast_recurse : Instr
  swap : Instr
  call_block : List ℕ → Instr
  load_blocks : Instr

-- an instruction with its line in the source, 0 where that is missing
pub record Step : Type 0 where
  pub instruction : Instr
  pub line : ℕ

pub record Code : Type 0 where
  pub required : Bool
  pub steps : List Step

pub record Block : Type 0 where
  pub name : List ℕ
  pub code : Code

pub record Template : Type 0 where
  pub name : List ℕ
  pub main : Code
  pub blocks : List Block

abbrev pub Program : Type 0
Program = List Template
