use Rattle.std.proofs.Common.{◌≡◌, ◌≤◌, ◌+◌, ◌*◌, length, drop, Some}
use Rattle.asm_io.specs.Outside.{Files}
use Rattle.asm_unit.specs.Loading.{imports_by, visit_by, new_file, most_files, most_bytes, AddsFiles, AreUnits}
use Rattle.asm_unit.proofs.load.+load.Given as goal

abbrev pub decreases-new_file : goal.decreases-new_file
decreases-new_file g l = 4 * l.room.levels

abbrev pub decreases-visit : goal.decreases-visit
decreases-visit g l = 4 * l.room.levels + 1

abbrev pub decreases-imports : goal.decreases-imports
decreases-imports g l = 4 * l.room.levels + 2

-- the imports that are left give the whole
abbrev pub invariant-imports-paths : goal.invariant-imports-paths
invariant-imports-paths g l = record {
  left : (files : Files) → g.S.Shelf.files l.fn.shelf ≡ Some files
      → imports_by (visit_by files l.room.first (new_file files l.room.first l.room.levels)) l.from (drop l.path-index l.paths) l.sources l.units
      ≡ imports_by (visit_by files l.room.first (new_file files l.room.first l.room.levels)) l.from l.paths l.fn.sources l.fn.units;
  same : g.S.Shelf.files l.shelf ≡ g.S.Shelf.files l.fn.shelf;
  later : g.S.Shelf.faults l.fn.shelf ≤ g.S.Shelf.faults l.shelf;
  added : AddsFiles most_bytes l.fn.sources l.sources;
  units : AreUnits l.sources l.units;
  more : length l.fn.sources ≤ length l.sources;
  bounded : length l.sources ≤ l.room.first + most_files;
}
