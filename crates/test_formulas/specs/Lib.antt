pub use Rattle.polyhedra.specs.Vocabulary
