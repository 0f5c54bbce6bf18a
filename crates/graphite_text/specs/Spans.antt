-- How an interval of time is a span of a plain graph.
use Rattle.graphite_time.specs.declared.interval.Interval.{Interval}
use Rattle.graphite_time.specs.Interval.{start_of, end_of}
use Rattle.graphite_text.specs.declared.span.Span.{Span}

-- the span of the same instants
abbrev pub as_span : Interval → Span
as_span over = record { a = start_of over; b = end_of over }
