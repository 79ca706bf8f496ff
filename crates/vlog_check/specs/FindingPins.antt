-- Findings on instances: what they are of, their parameters and their pins (IEEE 1364-2005, 12.1.2, 12.2.2.2, 12.3.5, 12.3.6).
use Rattle.std.specs.Prelude.{◌≡◌, ℕ, ◌==◌, Bool, true, false, not, ◌&&◌, ◌||◌, nat_lt, is_some, is_none, List, take, length, slice_get, codes, Option, Some, None, ◌⊎◌}
use Rattle.std.specs.Option.{option_map_or}
use Rattle.ila_base.specs.declared.place.Place.{Place}
use Rattle.ila_base.specs.declared.refusal.NetRefusal.TheVariants as refusals
use Rattle.vlog_parse.specs.declared.tree.Tree.{Tree}
use Rattle.vlog_parse.specs.declared.tree.Module.{Module}
use Rattle.vlog_parse.specs.declared.tree.Inst.{Inst}
use Rattle.vlog_parse.specs.declared.tree.Value.{Value}
use Rattle.vlog_parse.specs.declared.tree.Conns.{Conns}
use Rattle.vlog_parse.specs.declared.tree.Conns.TheVariants.{ByName, ByPlace}
use Rattle.vlog_parse.specs.declared.tree.Expr.{Expr}
use Rattle.vlog_check.specs.declared.found.Detail.TheVariants.{Alone, Parameter, Connection, NoParameter, NoPin}
use Rattle.vlog_check.specs.declared.found.Found.{Found}
use Rattle.vlog_check.specs.declared.kind.Pin.{Pin}
use Rattle.vlog_check.specs.Found.{FindsAmong, FindsIf}
use Rattle.vlog_check.specs.Cells.{accepts, is_memory}
use Rattle.vlog_check.specs.Scope.{value_of, number_among, has_constant, Kind, OfCell, OfModule, kind_of, pin_names, pin_of, is_input, is_output, is_given}
use Rattle.vlog_check.specs.FindingWidths.{finding, FindsUndeclared, FindsWidth}

-- an instance names no module of the text and no cell
abbrev pub FindsUnknown : Inst → Option Kind → Found → Type 0
FindsUnknown i None f = f ≡ finding i.place Alone (refusals.UnknownModule i.module)
FindsUnknown i (Some kind) f = ⊥

-- Parameters

-- whether a parameter can't stand: it is on a module, it is given twice, or the cell doesn't accept it
abbrev pub is_bad_parameter : Kind → Bool → List ℕ × Value → Bool
is_bad_parameter (OfModule n) twice p = true
is_bad_parameter (OfCell cell) twice p = twice || not (accepts cell p.0 p.1)

abbrev pub FindsParameter : Inst → Kind → ℕ → List ℕ × Value → Found → Type 0
FindsParameter i kind k p f = FindsIf (is_bad_parameter kind (is_some (value_of (take k i.params) p.0)) p) (finding i.place (Parameter k) (refusals.Pin p.0)) f

-- whether an instance of this lacks a parameter that it must have
abbrev pub is_lacking : Kind → List (List ℕ × Value) → List ℕ → Bool
is_lacking (OfModule n) params name = false
is_lacking (OfCell cell) params name = is_memory cell && is_none (value_of params name)

abbrev pub FindsLacking : Inst → Kind → Found → Type 0
FindsLacking i kind f =
    FindsIf (is_lacking kind i.params (codes "AW")) (finding i.place (NoParameter 0) (refusals.Pin (codes "AW"))) f
    ⊎ FindsIf (is_lacking kind i.params (codes "DW")) (finding i.place (NoParameter 1) (refusals.Pin (codes "DW"))) f

-- Connections

abbrev pub goes_in : Option Pin → Bool
goes_in pin = option_map_or (λ (p : Pin). is_input p.way) pin false

abbrev pub goes_out : Option Pin → Bool
goes_out pin = option_map_or (λ (p : Pin). is_output p.way) pin false

-- whether a connection can't stand: there is no such pin, it is given twice, or an output is connected to a constant
abbrev pub is_bad_pin : Option Pin → Bool → Bool → Bool
is_bad_pin pin twice constant = is_none pin || twice || (goes_out pin && constant)

abbrev pub is_bad_connection : Option Pin → Bool → Option Expr → Bool
is_bad_connection pin twice e = is_bad_pin pin twice (option_map_or has_constant e false)

-- what is found on the expression of a connection, which has the width of its pin
abbrev pub FindsConnected : Module → Option Pin → Option Expr → Found → Type 0
FindsConnected m pin None f = ⊥
FindsConnected m None (Some e) f = FindsUndeclared m e f
FindsConnected m (Some p) (Some e) f = FindsUndeclared m e f ⊎ FindsWidth m p.width e f

-- what is found on connection k with a pin
abbrev pub FindsConnection : Module → Place → ℕ → List ℕ → Option Pin → Bool → Option Expr → Found → Type 0
FindsConnection m place k name pin twice e f =
    FindsIf (is_bad_connection pin twice e) (finding place (Connection k) (refusals.Pin name)) f
    ⊎ FindsIf (goes_in pin && is_none e) (finding place (Connection k) (refusals.OpenInput name)) f
    ⊎ FindsConnected m pin e f

abbrev pub FindsNamed : Module → Inst → Kind → List (List ℕ × Option Expr) → ℕ → List ℕ × Option Expr → Found → Type 0
FindsNamed m i kind given k c f = FindsConnection m i.place k c.0 (pin_of i kind c.0) (is_some (value_of (take k given) c.0)) c.1 f

-- a connection by position, to this port of a module
abbrev pub FindsPlaced : Module → Inst → Kind → ℕ → Option (List ℕ) → Expr → Found → Type 0
FindsPlaced m i kind k None e f = FindsUndeclared m e f
FindsPlaced m i kind k (Some port) e f = FindsConnection m i.place k port (pin_of i kind port) false (Some e) f

-- a cell is connected by position, or there are more positions than ports
abbrev pub FindsPositions : Inst → Kind → List Expr → Found → Type 0
FindsPositions i (OfCell cell) given f = f ≡ finding i.place (Connection 0) (refusals.Pin i.name)
FindsPositions i (OfModule n) given f = FindsIf (nat_lt (length n.ports) (length given)) (finding i.place (Connection (length n.ports)) (refusals.Pin i.name)) f

abbrev pub port_at : Kind → ℕ → Option (List ℕ)
port_at (OfCell cell) k = None
port_at (OfModule n) k = slice_get n.ports k

abbrev pub FindsInConns : Module → Inst → Kind → Conns → Found → Type 0
FindsInConns m i kind (ByName given) f = FindsAmong (FindsNamed m i kind given) given f
FindsInConns m i kind (ByPlace given) f = FindsAmong (λ k e g. FindsPlaced m i kind k (port_at kind k) e g) given f ⊎ FindsPositions i kind given f

-- Pins that aren't given

-- of a name that stands twice in a header the first place counts
abbrev pub is_first_place : Kind → ℕ → List ℕ → Bool
is_first_place (OfCell cell) k name = true
is_first_place (OfModule n) k name = option_map_or (λ first. first == k) (number_among n.ports name) false

-- whether the pin of a name and a number is an input that isn't given
abbrev pub is_missing : Inst → Kind → ℕ → List ℕ → Bool
is_missing i kind k name = goes_in (pin_of i kind name) && is_first_place kind k name && not (is_given i.conns k name)

abbrev pub FindsMissing : Inst → Kind → ℕ → List ℕ → Found → Type 0
FindsMissing i kind k name f = FindsIf (is_missing i kind k name) (finding i.place (NoPin k) (refusals.OpenInput name)) f

-- Instances

-- what is found on the expressions of an instance of nothing
abbrev pub FindsInExprs : Module → Conns → Found → Type 0
FindsInExprs m (ByName given) f = FindsAmong (λ k (c : List ℕ × Option Expr) g. FindsConnected m None c.1 g) given f
FindsInExprs m (ByPlace given) f = FindsAmong (λ k e g. FindsUndeclared m e g) given f

abbrev pub FindsInKind : Module → Inst → Option Kind → Found → Type 0
FindsInKind m i None f = FindsInExprs m i.conns f
FindsInKind m i (Some kind) f =
    FindsAmong (FindsParameter i kind) i.params f ⊎ FindsInConns m i kind i.conns f ⊎ FindsLacking i kind f
    ⊎ FindsAmong (FindsMissing i kind) (pin_names kind) f

abbrev pub FindsInInst : Tree → Module → Inst → Found → Type 0
FindsInInst tree m i f = FindsUnknown i (kind_of tree i) f ⊎ FindsInKind m i (kind_of tree i) f
