-- Libraries below this one that are passed on: crates above name them here.
pub use Rattle.device_xml.specs.Below.xml_print as xml_print
