-- The model of a list of items, or their first fault.
use Rattle.std.specs.Prelude.{◌≡◌, ◌⊎◌, ◌<◌, ℕ, take, slice_index_or, List, length, Some, None}
use Rattle.fzn_parser.specs.Parsing.{ItemTree}
use Rattle.constraint_model.specs.declared.model.Phase.{Phase}
use Rattle.constraint_model.specs.declared.model.Goal.{Goal}
use Rattle.constraint_model.specs.declared.model.FznModel.{FznModel}
use Rattle.fzn_model.specs.declared.resolving.ModelError.{ModelError}
use Rattle.fzn_model.specs.declared.fault_kinds.FaultKind.{FaultKind}
use Rattle.fzn_model.specs.declared.stop.Stop.{Stop}
use Rattle.fzn_model.specs.FaultKinds.{kind_number}
use Rattle.fzn_model.specs.Effects.{Reading, reading_of}
use Rattle.fzn_model.specs.Faults.{fault_of}

-- no item has a fault after the items before it
abbrev pub AreLawful : List ℕ → List ItemTree → Type 0
AreLawful text items = (k : ℕ) (d : ItemTree) → k < length items → fault_of text (reading_of text (take k items)) (slice_index_or items k d).what ≡ None

-- the model that a reading makes, with what its solve item asks for
abbrev pub model_with : Reading → List Phase × Goal → FznModel
model_with r s = record { vars = r.vars; arrays = r.arrays; constraints = r.constraints; search = s.0; goal = s.1; output = r.output }

-- a reading with a solve item makes this model
pub record IsModelWith (r : Reading) (model : FznModel) : Type 0 where
  pub asked : List Phase × Goal
  pub solved : r.solved ≡ Some asked
  pub is_model : model ≡ model_with r asked

-- the items have this model: none has a fault, one of them is a solve item
pub record IsModelOf (text : List ℕ) (items : List ItemTree) (model : FznModel) : Type 0 where
  pub lawful : AreLawful text items
  pub is_model : IsModelWith (reading_of text items) model

-- the item at some place has this fault, and no item before it has one
pub record IsFirstFault (text : List ℕ) (items : List ItemTree) (kind at : ℕ) : Type 0 where
  pub place : ℕ
  pub inside : place < length items
  pub lawful : AreLawful text (take place items)
  pub which : FaultKind
  pub fault : (d : ItemTree) → fault_of text (reading_of text (take place items)) (slice_index_or items place d).what ≡ Some which
  pub is_kind : kind ≡ kind_number which
  pub first_byte : (d : ItemTree) → at ≡ (slice_index_or items place d).from

-- no item has a fault, and none is a solve item; the fault is at the end of the text
pub record LacksSolve (text : List ℕ) (items : List ItemTree) (kind at : ℕ) : Type 0 where
  pub lawful : AreLawful text items
  pub unsolved : (reading_of text items).solved ≡ None
  pub is_kind : kind ≡ kind_number FaultKind.NoSolve
  pub at_end : at ≡ length text

abbrev pub HasFault : List ℕ → List ItemTree → ℕ → ℕ → Type 0
HasFault text items kind at = IsFirstFault text items kind at ⊎ LacksSolve text items kind at

-- the items have a model
pub record HasModel (text : List ℕ) (items : List ItemTree) : Type 0 where
  pub model : FznModel
  pub is_model : IsModelOf text items model

-- the items have a fault
pub record IsRefused (text : List ℕ) (items : List ItemTree) : Type 0 where
  pub kind : ℕ
  pub at : ℕ
  pub fault : HasFault text items kind at

-- the items have a model or a fault
abbrev pub IsRead : List ℕ → List ItemTree → Type 0
IsRead text items = HasModel text items ⊎ IsRefused text items

-- why `resolve` may answer this error; memory may be refused at any time
abbrev pub IsCause : List ℕ → List ItemTree → ModelError → Type 0
IsCause text items (ModelError.Fault kind at) = HasFault text items kind at
IsCause text items ModelError.NoMemory = Unit {0}

-- the error where the item at this byte isn't taken
abbrev pub stopped_at : Stop → ℕ → ModelError
stopped_at (Stop.Fault kind) at = ModelError.Fault (kind_number kind) at
stopped_at Stop.NoMemory at = ModelError.NoMemory
