pub mod NamedColumns
