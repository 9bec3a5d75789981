mod NamedFile
