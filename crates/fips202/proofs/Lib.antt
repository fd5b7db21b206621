mod FourStreams
