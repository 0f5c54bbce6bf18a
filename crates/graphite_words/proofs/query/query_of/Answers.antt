use Rattle.std.proofs.Common.{◌≡◌, ◌∙◌, ◌∷◌, Some, ap, codes, false, map, string_bytes, sym}
use Rattle.std.proofs.lemmas.Result.{IfOk-weaker}
use Rattle.std.specs.List.{list_any}
use Rattle.graphite_words.specs.Query.{plain_query, plain_given, plain_made}
use Rattle.graphite_words.specs.Words.{is_dashes}
use Rattle.graphite_words.proofs.QueryLemmas.{is_some-map, query_of-found, whole_by}
use Rattle.graphite_words.proofs.query.query_of.Goals as goal

pub returns-clause-asked : goal.returns-clause-asked
returns-clause-asked c =
    let no-dashes : list_any is_dashes (map string_bytes c.args.words.now) ≡ false = cc in
    let line : map (λ word. word.now) c.deref.result.now ≡ codes "graphite" ∷ map string_bytes c.args.words.now = ap (map (λ word. word.now)) c.deref.ensures.value ∙ c.in_ok-line.ensures in
    IfOk-weaker c.query_by.result _ _
    (λ query asked. query_of-found _ _ _ (plain_given c.of_matches.result) (Some (plain_query query)) no-dashes line c.in_ok-matches.ensures.found c.of_matches.ensures asked)
    c.query_by.ensures.asked

pub returns-clause-vertex : goal.returns-clause-vertex
returns-clause-vertex c = IfOk-weaker c.query_by.result _ _ (λ query asked. (whole_by (plain_given c.of_matches.result) (plain_query query) asked).vertex) c.query_by.ensures.asked

pub returns-clause-key : goal.returns-clause-key
returns-clause-key c = IfOk-weaker c.query_by.result _ _ (λ query asked. (whole_by (plain_given c.of_matches.result) (plain_query query) asked).key) c.query_by.ensures.asked

pub returns-clause-wanted_until : goal.returns-clause-wanted_until
returns-clause-wanted_until c = IfOk-weaker c.query_by.result _ _ (λ query asked. (whole_by (plain_given c.of_matches.result) (plain_query query) asked).wanted_until) c.query_by.ensures.asked

pub returns-clause-from : goal.returns-clause-from
returns-clause-from c = IfOk-weaker c.query_by.result _ _ (λ query asked. (whole_by (plain_given c.of_matches.result) (plain_query query) asked).from) c.query_by.ensures.asked

pub returns-clause-until : goal.returns-clause-until
returns-clause-until c = IfOk-weaker c.query_by.result _ _ (λ query asked. (whole_by (plain_given c.of_matches.result) (plain_query query) asked).until) c.query_by.ensures.asked

pub returns-clause-instant : goal.returns-clause-instant
returns-clause-instant c = λ t. IfOk-weaker c.query_by.result _ _ (λ query asked. (whole_by (plain_given c.of_matches.result) (plain_query query) asked).instant t) c.query_by.ensures.asked

pub returns-clause-told : goal.returns-clause-told
returns-clause-told c = IfOk-weaker c.query_by.result _ _ (λ query asked. (whole_by (plain_given c.of_matches.result) (plain_query query) asked).told) c.query_by.ensures.asked

pub returns-clause-told_instant : goal.returns-clause-told_instant
returns-clause-told_instant c = λ t. IfOk-weaker c.query_by.result _ _ (λ query asked. (whole_by (plain_given c.of_matches.result) (plain_query query) asked).told_instant t) c.query_by.ensures.asked

pub returns-clause-paths : goal.returns-clause-paths
returns-clause-paths c = IfOk-weaker c.query_by.result _ _ (λ query asked. (whole_by (plain_given c.of_matches.result) (plain_query query) asked).paths) c.query_by.ensures.asked

pub returns-clause-made : goal.returns-clause-made
returns-clause-made c = IfOk-weaker c.query_by.result _ _ (λ query asked. λ named. sym (is_some-map plain_made query.made) ∙ (whole_by (plain_given c.of_matches.result) (plain_query query) asked).made named) c.query_by.ensures.asked

pub returns-clause-made_alone : goal.returns-clause-made_alone
returns-clause-made_alone c = IfOk-weaker c.query_by.result _ _ (λ query asked. λ there. (whole_by (plain_given c.of_matches.result) (plain_query query) asked).made_alone (is_some-map plain_made query.made ∙ there)) c.query_by.ensures.asked
