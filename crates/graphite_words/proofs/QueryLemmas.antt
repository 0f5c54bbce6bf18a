-- What is known of every query.
use Rattle.std.proofs.Common.{◌≡◌, ◌∙◌, ◌≤◌, ◌&&◌, ◌||◌, ◌==◌, ◌-◌, ◌^◌, ℕ, Bool, true, false, not, List, ◌∷◌, codes, Option, Some, None, arith, refl, ap, subst, sym}
use Rattle.std.specs.Prelude.{is_some, nat_le, option_map, option_and_then, unwrap_or, if◌then◌else◌, IfSome, IsSome, IsTrue}
use Rattle.std.specs.List.{list_any}
use Rattle.std.specs.Option.{option_or}
use Rattle.std.specs.Str.{bytes_eq}
use Rattle.std.proofs.lemmas.Bool.{and_parts, eq-eqb, eqb-false, eqb-true, leb-true}
use Rattle.std.proofs.lemmas.Option.{cond_some, option_and_then_some, same_Some}
use Rattle.clap.specs.Words.{Row as Match}
use Rattle.graphite_base.specs.Numbers.{is_canonical, number_in, value_of}
use Rattle.graphite_base.specs.declared.reading.TheConstants.{MADE_LIMIT}
use Rattle.graphite_time.specs.declared.TheConstants.{LAST}
use Rattle.graphite_words.specs.declared.query.Report.{Report}
use Rattle.graphite_words.specs.declared.query.Report.TheVariants.{Intervals, Paths, Sums, At, PathAt}
use Rattle.graphite_words.specs.declared.table.Command.{Command}
use Rattle.graphite_words.specs.declared.table.Command.TheVariants.{Degree, Bfs, Components, Max, Distance, Rank, Reach, Earliest, Cheapest, Fastest, Latest, Show, Made}
use Rattle.graphite_words.specs.Table.{command_of, row_of, wants_vertex}
use Rattle.graphite_words.specs.Words.{CanBeMade, PlainGiven, PlainMade, PlainQuery, TellsPaths, given_in, has_numbers, has_only_taken, has_wanted, horizon_in, instant_in, instant_of, is_as_wanted, is_dashes, is_taken, is_there, kind_in, made_by, made_of, matches_in, names_paths, of_in, query_by, query_of, query_with, report_of, steps_of, takes, tells_paths}

-- what is wanted is there, instants are in time, paths are told only where they are taken, and what a graph is made from is
-- there for one program alone
pub record IsWhole (query : PlainQuery) : Type 0 where
  pub vertex : IsTrue (wants_vertex (row_of query.command)) → IsSome query.vertex
  pub key : IsTrue (row_of query.command).wants_key → IsSome query.key
  pub wanted_until : IsTrue (row_of query.command).wants_until → IsSome query.until
  pub from : query.from ≤ LAST
  pub until : IfSome query.until (λ t. t ≤ LAST)
  pub instant : (t : ℕ) → query.report ≡ At t → t ≤ LAST
  pub told : (t : ℕ) → query.report ≡ PathAt t → IsSome query.told
  pub told_instant : (t : ℕ) → query.report ≡ PathAt t → t ≤ LAST
  pub paths : TellsPaths query.report → IsTrue (row_of query.command).takes_paths
  pub made : query.command ≡ Made → IsSome query.made
  pub made_alone : IsSome query.made → query.command ≡ Made
  pub can_be_made : IfSome query.made CanBeMade

-- what stands only where a test is passed
kept : {A : Type 0} (test : Bool) (value : Option A) (found : A) → (if test then value else None) ≡ Some found → (test ≡ true) × (value ≡ Some found)
kept true value found same = (refl, same)
kept false value found same = cc

-- and what stands only where it is not
dropped : {A : Type 0} (test : Bool) (value : Option A) (found : A) → (if test then None else value) ≡ Some found → (test ≡ false) × (value ≡ Some found)
dropped true value found same = cc
dropped false value found same = (refl, same)

-- a number that is read is within its limit
pub within : (max t : ℕ) (text : List ℕ) → number_in max text ≡ Some t → t ≤ max
within max t text found =
    let passed = cond_some (is_canonical text && nat_le (value_of text) max) (value_of text) t found in
    let small : value_of text ≤ max = leb-true _ _ (and_parts (is_canonical text) (nat_le (value_of text) max) passed.0).1 in
    subst (λ n. n ≤ max) passed.1 small

-- a horizon that is read is some instant, and in time
pub horizon_within : (text : List ℕ) (h : ℕ) → horizon_in text ≡ Some h → (1 ≤ h) × (h ≤ LAST)
horizon_within text h found = option_and_then_some _ (number_in LAST text) h found (λ n read made. go n (within LAST n text read) made)
  where
    go : (n : ℕ) → n ≤ LAST → (if n == 0 then None else Some n) ≡ Some h → (1 ≤ h) × (h ≤ LAST)
    go n small made =
        let left = dropped (n == 0) (Some n) h made in
        let some : n ≡ 0 → ⊥ = eqb-false n 0 left.0 in
        let start : 1 ≤ n = omega (arith, some) in
        subst (λ k. (1 ≤ k) × (k ≤ LAST)) (same_Some _ _ left.1) (start, small)

-- a program that is read to run on a made graph has a report
pub has_report : (text : List ℕ) (command : Command) → of_in text ≡ Some command → (row_of command).takes_report ≡ true
has_report text command found = option_and_then_some _ (command_of text) command found (λ named read made.
    let passed = kept (row_of named).takes_report (Some named) command made in
    subst (λ c. (row_of c).takes_report ≡ true) (same_Some _ _ passed.1) passed.0)

-- where there is no vertex there is no edge
ends : (vertices edges : ℕ) → ((vertices == 0) && not (edges == 0)) ≡ false → vertices ≡ 0 → edges ≡ 0
ends vertices edges kept none = go (edges == 0) refl (ap (λ test. test && not (edges == 0)) (sym (eq-eqb vertices 0 none)) ∙ kept)
  where
    go : (test : Bool) → (edges == 0) ≡ test → not (edges == 0) ≡ false → edges ≡ 0
    go true passed left = eqb-true edges 0 passed
    go false passed left = cc

-- what is read can be made
can_be_made : (seed vertices edges horizon of : List ℕ) (made : PlainMade) → made_by seed vertices edges horizon of ≡ Some made → CanBeMade made
can_be_made seed vertices edges horizon of made found =
    option_and_then_some _ (number_in (2 ^ 64 - 1) seed) made found (λ s seed-read after-seed.
    option_and_then_some _ (number_in MADE_LIMIT vertices) made after-seed (λ v vertices-read after-vertices.
    option_and_then_some _ (number_in MADE_LIMIT edges) made after-vertices (λ e edges-read after-edges.
    option_and_then_some _ (horizon_in horizon) made after-edges (λ h horizon-read after-horizon.
    option_and_then_some _ (of_in of) made after-horizon (λ command of-read after-of.
    let left = dropped ((v == 0) && not (e == 0)) _ made after-of in
    let time = horizon_within horizon h horizon-read in
    subst CanBeMade (same_Some _ _ left.1) (record {
      seed = within (2 ^ 64 - 1) s seed seed-read;
      vertices = within MADE_LIMIT v vertices vertices-read;
      edges = within MADE_LIMIT e edges edges-read;
      some = time.0;
      last = time.1;
      has_ends = ends v e left.0;
      has_report = has_report of command of-read;
    }))))))

-- an instant that is given is in time
instants : (value : Option (List ℕ)) (given : Option ℕ) → instant_of value ≡ Some given → IfSome given (λ t. t ≤ LAST)
instants value None found = tt
instants None (Some t) found = cc
instants (Some text) (Some t) found = go (instant_in text) refl found
  where
    go : (o : Option ℕ) → instant_in text ≡ o → option_map Some o ≡ Some (Some t) → t ≤ LAST
    go None same found = cc
    go (Some n) same found = within LAST t text (same ∙ cc)

-- and so is the one that stands where none is given
first_instant : (given : Option ℕ) → IfSome given (λ t. t ≤ LAST) → unwrap_or given 0 ≤ LAST
first_instant None known = omega arith
first_instant (Some t) known = known

-- a kind of report is told by no instant, and tells paths only by its name
record IsKind (text : List ℕ) (report : Report) : Type 0 where
  instant : (t : ℕ) → report ≡ At t → ⊥
  told : (t : ℕ) → report ≡ PathAt t → ⊥
  paths : TellsPaths report → names_paths (Some text) ≡ true

is_kind : (text : List ℕ) (report : Report) → kind_in text ≡ Some report → IsKind text report
is_kind text report found = go (bytes_eq text (codes "intervals")) (bytes_eq text (codes "paths")) (bytes_eq text (codes "sums")) report refl found
  where
    go : (a b c : Bool) (report : Report) → bytes_eq text (codes "paths") ≡ b
        → (if a then Some Intervals else (if b then Some Paths else (if c then Some Sums else None))) ≡ Some report → IsKind text report
    go true b c report named found = subst (IsKind text) (same_Some _ _ found) (record { instant = λ t at. cc; told = λ t at. cc; paths = λ tells. absurd tells })
    go false true c report named found = subst (IsKind text) (same_Some _ _ found) (record { instant = λ t at. cc; told = λ t at. cc; paths = λ tells. named })
    go false false true report named found = subst (IsKind text) (same_Some _ _ found) (record { instant = λ t at. cc; told = λ t at. cc; paths = λ tells. absurd tells })
    go false false false report named found = cc

-- an instant that is read is in time
read_in_time : (made : ℕ → Report) (text : List ℕ) (report : Report) → option_map made (instant_in text) ≡ Some report
    → (t : ℕ) × (t ≤ LAST) × (report ≡ made t)
read_in_time made text report found = go (instant_in text) refl found
  where
    go : (o : Option ℕ) → instant_in text ≡ o → option_map made o ≡ Some report → (t : ℕ) × (t ≤ LAST) × (report ≡ made t)
    go None same found = cc
    go (Some n) same found = (n, within LAST n text same, sym (same_Some _ _ found))

-- what is known of a report: one path is told of a vertex that is given, at an instant, which is in time
record IsRead (kind path : Option (List ℕ)) (report : Report) : Type 0 where
  instant : (t : ℕ) → report ≡ At t → t ≤ LAST
  told : (t : ℕ) → report ≡ PathAt t → is_some path ≡ true
  told_instant : (t : ℕ) → report ≡ PathAt t → t ≤ LAST
  paths : TellsPaths report → (is_some path || names_paths kind) ≡ true

is_read_report : (kind instant path : Option (List ℕ)) (report : Report) → report_of kind instant path ≡ Some report → IsRead kind path report
is_read_report None None None report found =
    subst (IsRead None None) (same_Some _ _ found) (record { instant = λ t at. cc; told = λ t at. cc; told_instant = λ t at. cc; paths = λ tells. absurd tells })
is_read_report (Some kind) None None report found =
    let known = is_kind kind report found in
    record { instant = λ t at. absurd (known.instant t at); told = λ t at. absurd (known.told t at); told_instant = λ t at. absurd (known.told t at); paths = known.paths }
is_read_report None (Some text) None report found =
    let read = read_in_time At text report found in
    subst (IsRead None None) (sym read.2) (record { instant = λ t at. subst (λ n. n ≤ LAST) (cc) read.1; told = λ t at. cc; told_instant = λ t at. cc; paths = λ tells. absurd tells })
is_read_report None (Some text) (Some name) report found =
    let read = read_in_time PathAt text report found in
    subst (IsRead None (Some name)) (sym read.2) (record { instant = λ t at. cc; told = λ t at. refl; told_instant = λ t at. subst (λ n. n ≤ LAST) (cc) read.1; paths = λ tells. refl })
is_read_report (Some kind) (Some text) path report found = cc
is_read_report None None (Some name) report found = cc
is_read_report (Some kind) None (Some name) report found = cc

-- paths that are told are taken
taken_paths : (takes tells : Bool) → (takes || not tells) ≡ true → tells ≡ true → takes ≡ true
taken_paths true tells fits told = refl
taken_paths false true fits told = cc
taken_paths false false fits told = cc

-- what is wanted is given
wanted : (wants : Bool) (value : Option (List ℕ)) → is_as_wanted wants value ≡ true → wants ≡ true → is_some value ≡ true
wanted true value fits wants = fits
wanted false value fits wants = cc

-- and so is a vertex
wanted_vertex : (wants_source wants_target : Bool) (source target : Option (List ℕ)) → is_as_wanted wants_source source ≡ true
    → is_as_wanted wants_target target ≡ true → (wants_source || wants_target) ≡ true → is_some (option_or source target) ≡ true
wanted_vertex wants_source wants_target (Some name) target fits-source fits-target wants = refl
wanted_vertex true wants_target None target fits-source fits-target wants = cc
wanted_vertex false wants_target None target fits-source fits-target wants = wanted wants_target target fits-target wants

-- an instant that is given is read
is_read : (value : Option (List ℕ)) (given : Option ℕ) → instant_of value ≡ Some given → is_some value ≡ true → is_some given ≡ true
is_read value (Some t) read there = refl
is_read None None read there = cc
is_read (Some text) None read there = absurd (go (instant_in text) read)
  where
    go : (o : Option ℕ) → option_map Some o ≡ Some None → ⊥
    go None read = cc
    go (Some t) read = cc

-- so an end that is wanted is known
wanted_end : (wants : Bool) (value : Option (List ℕ)) (given : Option ℕ) → is_there wants value ≡ true → instant_of value ≡ Some given
    → wants ≡ true → is_some given ≡ true
wanted_end true value given fits read wants = is_read value given read fits
wanted_end false value given fits read wants = cc

-- what a graph is made from is read where it is wanted, and nowhere else
numbers_read : (makes : Bool) (seed vertices edges horizon of : Option (List ℕ)) (made : Option PlainMade)
    → (is_as_wanted makes seed && is_as_wanted makes vertices && is_as_wanted makes edges && is_as_wanted makes horizon && is_as_wanted makes of) ≡ true
    → made_of seed vertices edges horizon of ≡ Some made → is_some made ≡ makes
numbers_read true (Some seed) (Some vertices) (Some edges) (Some horizon) (Some of) made fits read = go (made_by seed vertices edges horizon of) read
  where
    go : (o : Option PlainMade) → option_map Some o ≡ Some made → is_some made ≡ true
    go None read = cc
    go (Some m) read = ap is_some (sym (same_Some _ _ read))
numbers_read true (Some seed) (Some vertices) (Some edges) (Some horizon) None made fits read = cc
numbers_read true (Some seed) (Some vertices) (Some edges) None of made fits read = cc
numbers_read true (Some seed) (Some vertices) None horizon of made fits read = cc
numbers_read true (Some seed) None edges horizon of made fits read = cc
numbers_read true None vertices edges horizon of made fits read = cc
numbers_read false (Some seed) vertices edges horizon of made fits read = cc
numbers_read false None vertices edges horizon of made fits read = ap is_some (sym (same_Some _ _ read))

-- and what is read can be made
numbers_can : (seed vertices edges horizon of : Option (List ℕ)) (made : Option PlainMade) → made_of seed vertices edges horizon of ≡ Some made
    → IfSome made CanBeMade
numbers_can seed vertices edges horizon of None read = tt
numbers_can (Some seed) (Some vertices) (Some edges) (Some horizon) (Some of) (Some made) read = go (made_by seed vertices edges horizon of) refl read
  where
    go : (o : Option PlainMade) → made_by seed vertices edges horizon of ≡ o → option_map Some o ≡ Some (Some made) → CanBeMade made
    go None same read = cc
    go (Some m) same read = can_be_made seed vertices edges horizon of made (same ∙ cc)
numbers_can (Some seed) (Some vertices) (Some edges) (Some horizon) None (Some made) read = cc
numbers_can (Some seed) (Some vertices) (Some edges) None of (Some made) read = cc
numbers_can (Some seed) (Some vertices) None horizon of (Some made) read = cc
numbers_can (Some seed) None edges horizon of (Some made) read = cc
numbers_can None vertices edges horizon of (Some made) read = cc

-- a value of another form is there exactly where it is
pub is_some-map : {A B : Type 0} (f : A → B) (o : Option A) → is_some (option_map f o) ≡ is_some o
is_some-map f None = refl
is_some-map f (Some x) = refl

-- one program makes its graph
makes_alone : (command : Command) → (row_of command).makes ≡ true → command ≡ Made
makes_alone Degree makes = cc
makes_alone Bfs makes = cc
makes_alone Components makes = cc
makes_alone Max makes = cc
makes_alone Distance makes = cc
makes_alone Rank makes = cc
makes_alone Reach makes = cc
makes_alone Earliest makes = cc
makes_alone Cheapest makes = cc
makes_alone Fastest makes = cc
makes_alone Latest makes = cc
makes_alone Show makes = cc
makes_alone Made makes = refl

-- the five tests of what is wanted are passed
record AreWanted (a b c d e : Bool) : Type 0 where
  source : a ≡ true
  target : b ≡ true
  key : c ≡ true
  until : d ≡ true
  numbers : e ≡ true

all_five : (a b c d e : Bool) → (a && b && c && d && e) ≡ true → AreWanted a b c d e
all_five true true true true e all = record { source = refl; target = refl; key = refl; until = refl; numbers = all }
all_five true true true false e all = cc
all_five true true false d e all = cc
all_five true false c d e all = cc
all_five false b c d e all = cc

-- the last test of what is taken is passed
all_six : (a b c d e f : Bool) → (a && b && c && d && e && f) ≡ true → f ≡ true
all_six true true true true true f all = all
all_six true true true true false f all = cc
all_six true true true false e f all = cc
all_six true true false d e f all = cc
all_six true false c d e f all = cc
all_six false b c d e f all = cc

-- what a program makes of what is given is whole
pub whole_with : (command : Command) (given : PlainGiven) (query : PlainQuery) → query_with command given ≡ Some query → IsWhole query
whole_with command given query found =
    let row = row_of command in
    let passed = kept (takes row given) _ query found in
    let fits = and_parts (has_wanted row given) (has_only_taken row given) passed.0 in
    let parts = all_five (is_as_wanted row.wants_source given.source) (is_as_wanted row.wants_target given.target)
    (is_as_wanted row.wants_key given.key) (is_there row.wants_until given.until)
    (has_numbers row given) fits.0 in
    let taken : (row.takes_paths || not (tells_paths given)) ≡ true = all_six (is_taken row.takes_window given.from) (is_taken row.takes_window given.until)
    (is_taken row.takes_steps given.steps) (is_taken row.takes_report given.report) (is_taken row.takes_report given.at) (row.takes_paths || not (tells_paths given)) fits.1 in
    option_and_then_some _ (instant_of given.from) query passed.1 (λ from from-read after-from.
    option_and_then_some _ (instant_of given.until) query after-from (λ until until-read after-until.
    option_and_then_some _ (steps_of given.steps) query after-until (λ steps steps-read after-steps.
    option_and_then_some _ (report_of given.report given.at given.path) query after-steps (λ report report-read after-report.
    option_and_then_some _ (made_of given.seed given.vertices given.edges given.horizon given.of) query after-report (λ made made-read whole.
    let numbers : is_some made ≡ row.makes = numbers_read row.makes given.seed given.vertices given.edges given.horizon given.of made parts.numbers made-read in
    let read = is_read_report given.report given.at given.path report report-read in
    subst IsWhole (same_Some _ query whole) (record {
      vertex = wanted_vertex row.wants_source row.wants_target given.source given.target parts.source parts.target;
      key = wanted row.wants_key given.key parts.key;
      wanted_until = wanted_end row.wants_until given.until until parts.until until-read;
      from = first_instant from (instants given.from from from-read);
      until = instants given.until until until-read;
      instant = read.instant;
      told = read.told;
      told_instant = read.told_instant;
      paths = λ tells. taken_paths row.takes_paths (tells_paths given) taken (read.paths tells);
      made = λ named. numbers ∙ ap (λ c. (row_of c).makes) named;
      made_alone = λ there. makes_alone command (sym numbers ∙ there);
      can_be_made = numbers_can given.seed given.vertices given.edges given.horizon given.of made made-read;
    }))))))

-- and so is what is given
pub whole_by : (given : PlainGiven) (query : PlainQuery) → query_by given ≡ Some query → IsWhole query
whole_by given query found =
    option_and_then_some _ (option_and_then command_of given.program) query found (λ command named made. whole_with command given query made)

-- the answer to words in which something is found
pub query_of-found : (words line : List (List ℕ)) (found : List Match) (given : PlainGiven) (query : Option PlainQuery) → list_any is_dashes words ≡ false
    → line ≡ codes "graphite" ∷ words → matches_in line ≡ Some found → given ≡ given_in found → query_by given ≡ query → query_of words ≡ query
query_of-found words line found given query no-dashes same-line same-found same-given made =
    ap (λ dashes. if dashes then None else option_and_then (λ found. query_by (given_in found)) (matches_in (codes "graphite" ∷ words))) no-dashes
    ∙ ap (λ line. option_and_then (λ found. query_by (given_in found)) (matches_in line)) (sym same-line)
    ∙ ap (option_and_then (λ found. query_by (given_in found))) same-found
    ∙ ap query_by (sym same-given) ∙ made
