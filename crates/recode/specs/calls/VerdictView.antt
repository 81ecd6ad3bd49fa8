-- A verdict, by what is known of its reader.
use Rattle.encoding_front.specs.calls.Stream.{DecoderView}
use Rattle.recode.specs.calls.Verdict.{VerdictView}
use Rattle.recode.specs.declared.verdict.Verdict.{Verdict}

-- what contracts say of a `Verdict`, by the view of the decoder that reads the output back
abbrev pub verdict_view : {D : Type 0} → (D → DecoderView) → Verdict D → VerdictView
verdict_view view v = record { reader = view v.reader; by_log = v.by_log; faithful = v.faithful }
