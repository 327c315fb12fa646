-- Libraries below this one that are passed on: crates above name them here.
pub use Rattle.xml_print.specs as xml_print
