-- For private functions and proofs alone: one record against the rules on records, where the rules on
-- lines, headers and fields are kept.
use Rattle.std.specs.Prelude.{◌≡◌, ℕ, ◌≤◌, nat_le, ◌==◌, ◌&&◌, List, [], ◌∷◌, codes, Bool, true, false, not, Option, Some, None, Result, Err, if◌then◌else◌, ⊤}
use Rattle.std.specs.Str.{bytes_eq}
use Rattle.graphite_time.specs.declared.TheConstants.{LAST}
use Rattle.graphite_text.specs.declared.limits.TheConstants.{PROPERTY_LIMIT}
use Rattle.graphite_text.specs.declared.rules.TheConstants.{HEADER_RULE, DECLARED_RULE, ENDS_RULE, OWNER_RULE, OVERLAP_RULE, TRAVEL_RULE, LIMIT_RULE, AFTER_END_RULE}
use Rattle.graphite_text.specs.declared.span.Span.{Span}
use Rattle.graphite_text.specs.Forms.{Form, Header}
use Rattle.graphite_text.specs.Lines.{TextLine}
use Rattle.graphite_text.specs.Reading.{Known, first_broken, breaks_declared, breaks_ends, breaks_owner, breaks_limit, breaks_header, is_apart, property_count, known_with, checked, after_line}
use Rattle.graphite_text.specs.Step.{broken_by_form}
use Rattle.graphite_props.specs.declared.fault.AddFault.{AddFault}
use Rattle.graphite_props.specs.declared.fault.AddFault.TheVariants as added
use Rattle.graphite_graph.specs.declared.fault.Fault.{Fault}
use Rattle.graphite_graph.specs.declared.fault.Fault.TheVariants.{Rule, NoMemory}

-- what is known after a record, or the least of the rules on what it says that it breaks
abbrev pub after_form : Known → Form → Result Known ℕ
after_form known form = checked (broken_by_form known form) (known_with known form)

-- the least of the rules on what is declared, on ends and on limits that a record breaks
abbrev pub place_broken : Known → Form → Option ℕ
place_broken known form =
    first_broken ((DECLARED_RULE, breaks_declared) ∷ (ENDS_RULE, breaks_ends) ∷ (LIMIT_RULE, breaks_limit) ∷ []) known form

-- the least of the rules on what is declared and on owners that a property breaks
abbrev pub owner_broken : Known → Form → Option ℕ
owner_broken known form = first_broken ((DECLARED_RULE, breaks_declared) ∷ (OWNER_RULE, breaks_owner) ∷ []) known form

-- there are as many properties as there may be
abbrev pub is_full : Known → Bool
is_full known = nat_le PROPERTY_LIMIT (property_count known.graph)

-- the least of the rules on overlaps and limits that a property of this vertex breaks
abbrev pub vertex_property_broken : Known → ℕ → List ℕ → Span → Option ℕ
vertex_property_broken known v key over =
    if not (is_apart known.graph.vertex_properties v key over) then Some OVERLAP_RULE else (if is_full known then Some LIMIT_RULE else None)

-- a travel time of 0
abbrev pub is_stopped : List ℕ → ℕ → Bool
is_stopped key value = bytes_eq key (codes "time") && (value == 0)

-- the least of the rules on travel times and limits that a property of an edge breaks
abbrev pub late_broken : Known → List ℕ → ℕ → Option ℕ
late_broken known key value = if is_stopped key value then Some TRAVEL_RULE else (if is_full known then Some LIMIT_RULE else None)

-- the least of the rules on overlaps, travel times and limits that a property of this edge breaks
abbrev pub edge_property_broken : Known → ℕ → List ℕ → Span → ℕ → Option ℕ
edge_property_broken known e key over value =
    if not (is_apart known.graph.edge_properties e key over) then Some OVERLAP_RULE else late_broken known key value

-- the fault of a property that is not added
abbrev pub fault_of_add : AddFault → Fault
fault_of_add added.Overlap = Rule OVERLAP_RULE
fault_of_add added.NoMemory = NoMemory

-- what a fault says where this is the least rule that is broken
abbrev pub ExplainsRule : Option ℕ → Fault → Type 0
ExplainsRule broken (Rule rule) = broken ≡ Some rule
ExplainsRule broken NoMemory = ⊤

-- the rule that a record breaks by where it stands: it comes after `end`, or it is a header where
-- none may be, or it is none where one must be
abbrev pub misplaced : Known → List ℕ → Option ℕ
misplaced known line =
    if known.ended then Some AFTER_END_RULE
    else (if breaks_header known (record { bytes = line; ended = true }) then Some HEADER_RULE else None)

-- a record was read, and `end` was not
pub record IsOpen (known : Known) : Type 0 where
  pub started : known.started ≡ true
  pub open_still : known.ended ≡ false

-- a header's horizon is one that a graph may have
abbrev pub HasHorizon : Form → Type 0
HasHorizon (Header version horizon) = horizon ≤ LAST
HasHorizon _ = ⊤

abbrev pub is_header_form : Form → Bool
is_header_form (Header version horizon) = true
is_header_form _ = false

-- the record stands where it may: a header first, any other after it, none after `end`
pub record IsPlaced (known : Known) (form : Form) : Type 0 where
  pub started : known.started ≡ not (is_header_form form)
  pub open_still : known.ended ≡ false
  pub has_horizon : HasHorizon form

-- what a fault says of a record
abbrev pub ExplainsRecord : Known → Form → Fault → Type 0
ExplainsRecord known form (Rule rule) = after_form known form ≡ Err rule
ExplainsRecord known form NoMemory = ⊤

-- what a fault says of a line
abbrev pub ExplainsLine : Known → TextLine → Fault → Type 0
ExplainsLine known line (Rule rule) = after_line known line ≡ Err rule
ExplainsLine known line NoMemory = ⊤
