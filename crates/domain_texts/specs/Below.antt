-- Libraries below this one that are passed on: crates above name them here.
pub use Rattle.domain_xml.specs.Below.xml_print as xml_print
pub use Rattle.session_spec.specs as session_spec
