use Rattle.std.specs.Iterator.Adapters.{enumerate_source, enumerate_count}
use Rattle.grid.specs.Plain.{plain}
use Rattle.contour.specs.Remaining.{firsts_left}
use Rattle.area.proofs.Storing.{PartMeasured}
use Rattle.area.proofs.contours.put_areas.Given as goal

abbrev pub invariant-loop-place : goal.invariant-loop-place
invariant-loop-place l =
    PartMeasured (plain l.contours.layer) l.table l.initial.areas l.areas (enumerate_count l.place-iterator) (firsts_left (enumerate_source l.place-iterator))
